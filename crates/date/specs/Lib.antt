pub mod Date
pub mod Answers
