pub mod Linear
pub mod Eight
pub mod Windows
