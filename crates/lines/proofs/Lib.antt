pub mod Naming
pub mod Room
