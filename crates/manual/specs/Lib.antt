pub mod Orders
pub mod Groups
pub mod Arguments
pub mod Recipes
pub mod Options
pub mod Spellings
pub mod Ends
pub mod Modules
