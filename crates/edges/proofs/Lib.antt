pub mod Backs
pub mod Named
pub mod Parts
