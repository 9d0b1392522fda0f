pub mod Told
pub mod Sites
