pub mod Tables
pub mod Image
pub mod Checks
pub mod Loads
pub mod Trees
pub mod Texts
