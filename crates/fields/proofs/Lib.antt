pub mod Parts
pub mod Showing
pub mod Rows
pub mod Room
