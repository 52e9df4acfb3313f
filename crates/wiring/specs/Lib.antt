pub mod Boxes
pub mod Rules
