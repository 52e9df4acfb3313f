pub mod Tree
pub mod Walks
pub mod Ids
pub mod Shapes
pub mod Meanings
