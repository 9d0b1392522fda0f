pub mod Currencies
pub mod Meanings
pub mod Vats
pub mod Containing
