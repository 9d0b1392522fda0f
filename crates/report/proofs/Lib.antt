pub mod Placing
pub mod Cells
pub mod Widths
pub mod Meanings
pub mod RowsOf
pub mod Holding
