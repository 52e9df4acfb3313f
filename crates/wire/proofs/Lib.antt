pub mod Appended
pub mod Arrays
pub mod Rows
