pub mod Places
pub mod Once
pub mod Paths
pub mod Order
pub mod Placing
pub mod Stepping
pub mod Answering
