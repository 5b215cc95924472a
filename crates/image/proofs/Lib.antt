pub mod Stands
pub mod Says
pub mod Keeps
pub mod Bridge
pub mod Facts
