pub mod State
pub mod Reading
