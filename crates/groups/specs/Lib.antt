pub mod Groups
pub mod Categories
pub mod Taxes
