pub mod Telling
pub mod Spelled
