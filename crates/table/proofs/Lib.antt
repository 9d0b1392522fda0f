pub mod Scans
pub mod Records
pub mod Kin
