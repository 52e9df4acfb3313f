pub mod Acks
pub mod Tables
pub mod Waits
pub mod Words
