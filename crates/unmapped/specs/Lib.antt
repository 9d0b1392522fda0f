pub mod Acted
pub mod Listed
pub mod Noting
pub mod Row
pub mod Search
