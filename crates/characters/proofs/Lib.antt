pub mod Characters
pub mod WhiteSpaces
pub mod Trims
pub mod Encoding
pub mod Boundaries
pub mod Steps
