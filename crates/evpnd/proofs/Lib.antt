pub mod Filed
pub mod Telling
pub mod Versions
pub mod Scripted
pub mod Given
