pub mod Tellings
pub mod InTurns
pub mod Delivering
