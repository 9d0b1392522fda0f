pub mod Ahead
pub mod Walking
pub mod Transfers
pub mod Reaching
pub mod Firsts
