pub mod Keeps
pub mod History
pub mod Right
pub mod State
pub mod Law
