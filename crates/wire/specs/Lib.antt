pub mod Bytes
pub mod Faults
pub mod Kinds
pub mod Readers
pub mod TreeIds
