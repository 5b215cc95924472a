pub mod Path
pub mod Laws
pub mod Steps
pub mod Names
