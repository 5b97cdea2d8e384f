pub mod PassingOn
pub mod Plans
pub mod Contained
pub mod Letters
pub mod Threads
pub mod Histories
