pub mod Symbols
pub mod Numbers
pub mod Places
