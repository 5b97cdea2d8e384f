pub mod Doing
pub mod Paging
pub mod Conversing
pub mod Talking
pub mod Turning
