pub mod Trees
pub mod Readable
pub mod Examples
