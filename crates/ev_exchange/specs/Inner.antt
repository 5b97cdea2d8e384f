pub mod Receiving
pub mod SendLoop
