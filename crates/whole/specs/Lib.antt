pub mod Places
pub mod Once
pub mod Modules
pub mod Shared
pub mod Derived
pub mod Inserted
pub mod Entries
