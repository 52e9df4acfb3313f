pub mod Faults
pub mod Grammar
pub mod Verbs
