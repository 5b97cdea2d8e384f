pub mod Bridging
pub mod Steps
pub mod Storms
