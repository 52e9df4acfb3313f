mod Each
mod Steps
pub mod Folds
