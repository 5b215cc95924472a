pub mod Tree
pub mod Rows
pub mod KindOrder
pub mod Keys
