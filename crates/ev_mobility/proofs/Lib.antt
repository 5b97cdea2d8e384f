pub mod Placing
pub mod Hearing
