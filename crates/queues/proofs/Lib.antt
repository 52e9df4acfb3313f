pub mod Bounds
mod Ports
mod Runs
