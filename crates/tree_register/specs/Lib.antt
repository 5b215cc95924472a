pub mod Names
pub mod Signatures
pub mod Derived
pub mod Laws
pub mod Found
