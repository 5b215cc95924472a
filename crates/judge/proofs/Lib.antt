pub mod Digits
pub mod Lists
pub mod Agreement
