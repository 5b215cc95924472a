pub mod Choice
pub mod AsJust
