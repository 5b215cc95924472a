pub mod LookUps
pub mod Found
pub mod Derive
