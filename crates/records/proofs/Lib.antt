pub mod Tables
pub mod Parts
pub mod Certain
pub mod FromNumbers
