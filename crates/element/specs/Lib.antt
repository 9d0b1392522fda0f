pub mod LinkDoc
pub mod Trimmed
