pub mod Numbers
pub mod Wording
