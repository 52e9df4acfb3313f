pub mod Ports
pub mod Flags
pub mod Places
pub mod Outward
