pub mod Steps
pub mod Heard
pub mod Walks
