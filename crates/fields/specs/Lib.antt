pub mod Line
pub mod Columns
