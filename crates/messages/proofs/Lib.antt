pub mod Columns
pub mod Grown
pub mod Others
