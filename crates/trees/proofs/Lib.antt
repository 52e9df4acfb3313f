pub mod Under
pub mod Simple
pub mod Ahead
pub mod Shapes
pub mod Ids
