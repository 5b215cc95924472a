pub mod Patterns
pub mod Chosen
