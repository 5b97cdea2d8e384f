pub mod Alert
pub mod Window
pub mod Moves
pub mod Seq
