pub mod Stations
pub mod Ordered
pub mod Place
pub mod Oldest
pub mod Found
pub mod Learns
pub mod Histories
