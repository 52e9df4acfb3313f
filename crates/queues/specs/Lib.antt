pub mod Port
pub mod Ports
pub mod Refused
pub mod Runs
