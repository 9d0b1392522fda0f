pub mod Puts
pub mod Numbers
