pub mod Currency
pub mod CodeList
pub mod VatPoint
pub mod Boolean
pub mod Rules
pub mod Vat
pub mod Conformant
pub mod DateFormat
