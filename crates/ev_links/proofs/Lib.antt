pub mod Backlogs
pub mod Behind
pub mod Coming
pub mod Lines
pub mod Names
pub mod Orders
pub mod Sharing
