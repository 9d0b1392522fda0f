pub mod Printed
pub mod Numbers
pub mod Tables
