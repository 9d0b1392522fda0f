pub mod Links
pub mod Siblings
pub mod Firsts
