pub mod Args
pub mod Checks
pub mod Configured
pub mod Files
pub mod Program
pub mod Seen
