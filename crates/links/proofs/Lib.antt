pub mod Linking
pub mod Chains
pub mod FirstKids
