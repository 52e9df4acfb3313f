mod Lowest
pub mod Words
