pub mod Line
pub mod Given
pub mod Spelling
pub mod Places
pub mod Examples
