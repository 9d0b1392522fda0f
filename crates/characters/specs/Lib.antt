pub mod Characters
pub mod WhiteSpace
pub mod Trim
pub mod TrimWalk
pub mod Utf8Walk
