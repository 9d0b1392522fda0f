pub mod Answers
pub mod Answered
pub mod Calls
pub mod Spelled
