pub mod Hexing
pub mod Spaces
pub mod Listing
pub mod Numbers
