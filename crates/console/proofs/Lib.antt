pub mod Waiting
pub mod Serials
pub mod Steps
pub mod Sources
pub mod Admission
pub mod Layers
pub mod Laws
