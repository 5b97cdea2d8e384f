pub mod Leaving
pub mod Pending
pub mod Speaker
