pub mod Address
pub mod Entries
pub mod Search
pub mod Contents
pub mod Held
pub mod Learning
pub mod Ageing
pub mod History
