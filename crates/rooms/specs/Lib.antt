pub mod Joined
pub mod Cells
pub mod Blank
pub mod Holds
pub mod Named
pub mod Examples
