pub mod Put
pub mod Numbered
pub mod Message
pub mod Path
pub mod Term
pub mod Parent
