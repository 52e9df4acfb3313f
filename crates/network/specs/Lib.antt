pub mod Network
pub mod Simulation
pub mod AsContracts
