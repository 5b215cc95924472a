pub mod Format
pub mod Fields
pub mod Sure
pub mod Reads
pub mod Encoded
pub mod Calls
