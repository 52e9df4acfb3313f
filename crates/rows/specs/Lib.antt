pub mod Bounds
pub mod Budget
pub mod Events
pub mod Refused
pub mod Row
pub mod Slot
