pub mod Learning
pub mod Orders
pub mod Slot
