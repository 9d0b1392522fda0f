pub mod Refusals
pub mod Acceptance
pub mod Reasons
pub mod Verdicts
