pub mod Bytes
pub mod Numbers
pub mod Parting
pub mod Lines
pub mod Spellings
pub mod Fitness
pub mod Examples
