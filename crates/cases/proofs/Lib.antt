pub mod Symbols
pub mod Lines
mod Finding
