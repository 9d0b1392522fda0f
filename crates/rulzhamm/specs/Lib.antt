pub mod Called
pub mod Calls
pub mod Parts
pub mod Version
