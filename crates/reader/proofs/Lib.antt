pub mod Rooms
pub mod Settling
pub mod Calls
pub mod Counts
pub mod Coded
pub mod Witness
