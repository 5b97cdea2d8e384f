pub mod Binding
pub mod Running
pub mod Serving
pub mod Shortening
pub mod Threads
pub mod AsFabric
pub mod Sound
