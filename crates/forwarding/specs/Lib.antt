pub mod State
pub mod Holding
pub mod Faults
pub mod Replies
pub mod Ways
