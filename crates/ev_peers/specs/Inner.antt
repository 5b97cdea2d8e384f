pub mod EdgeThreads
pub mod Forwarding
pub mod Handles
pub mod History
pub mod EdgeOutcome
pub mod Passing
pub mod Plan
pub mod Working
