pub mod Fields
pub mod Table
