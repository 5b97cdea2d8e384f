pub mod Coming
pub mod Parts
pub mod Tap
pub mod WireOut
pub mod LastBpdu
