pub mod Members
pub mod InBytes
