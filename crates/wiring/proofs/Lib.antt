pub mod Filling
pub mod Switching
