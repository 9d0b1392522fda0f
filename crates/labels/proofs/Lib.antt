pub mod Texts
pub mod OwnTexts
