pub mod Basics
pub mod Least
pub mod Paths
pub mod Places
pub mod Vectors
