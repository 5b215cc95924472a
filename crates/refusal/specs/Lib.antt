pub mod Told
pub mod Shift
