pub mod Spelling
pub mod Signs
pub mod Putting
pub mod Room
