pub mod Records
pub mod Layouts
pub mod Refusals
pub mod Scalars
pub mod Fragments
pub mod Witness
