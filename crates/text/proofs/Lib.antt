pub mod Bools
pub mod Ranges
pub mod Digits
pub mod Orders
pub mod Spans
pub mod Places
pub mod Words
