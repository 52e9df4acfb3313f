pub mod Bytes
pub mod Words
pub mod Parts
pub mod Reading
