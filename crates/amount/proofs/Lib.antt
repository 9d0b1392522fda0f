pub mod Signs
pub mod Walks
pub mod Meaning
pub mod Spelling
pub mod Pieces
pub mod Examples
pub mod Errors
