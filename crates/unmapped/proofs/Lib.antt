pub mod Cases
pub mod Halving
pub mod Moves
pub mod Notes
pub mod Notings
pub mod Places
pub mod Reading
pub mod RowsBack
