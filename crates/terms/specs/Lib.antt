pub mod Terms
pub mod Endings
