pub mod Acting
pub mod Counting
pub mod Walking
pub mod Reaching
