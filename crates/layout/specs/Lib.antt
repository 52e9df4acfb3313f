pub mod Stations
pub mod Net
pub mod Session
