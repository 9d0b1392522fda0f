pub mod Kids
pub mod Made
pub mod Steps
pub mod Meaning
