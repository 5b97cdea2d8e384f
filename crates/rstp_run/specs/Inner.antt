pub mod Rest
pub mod Runs
