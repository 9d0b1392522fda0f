pub mod Text
pub mod PathText
pub mod TermName
pub mod ParentName
