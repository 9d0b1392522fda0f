pub mod Decimal
pub mod Grammar
pub mod Amount
pub mod Percentage
pub mod Answers
pub mod Walk
pub mod Pieces
pub mod Examples
