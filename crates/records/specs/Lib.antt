pub mod Records
pub mod TreeRows
pub mod Tables
pub mod Numbered
