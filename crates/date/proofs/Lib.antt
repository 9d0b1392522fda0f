pub mod Months
pub mod Parts
pub mod Dates
