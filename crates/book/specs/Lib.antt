pub mod Kept
pub mod Holds
