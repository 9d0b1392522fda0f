pub mod Placed
pub mod Rows
pub mod Encoding
pub mod Columns
pub mod Values
pub mod HeldRows
