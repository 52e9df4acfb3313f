pub mod Hellos
pub mod LinkStates
pub mod Acks
pub mod TreeBytes
pub mod Messages
