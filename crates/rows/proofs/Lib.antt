pub mod Bounds
pub mod Orders
mod Rings
