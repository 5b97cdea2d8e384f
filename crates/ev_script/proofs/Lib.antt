pub mod Each
pub mod Looking
pub mod Pairs
pub mod Playings
pub mod Showing
pub mod Simulating
pub mod Telling
