pub mod RequestSlot
pub mod Request
pub mod Posts
pub mod Calls
