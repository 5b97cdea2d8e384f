pub mod Datagram
pub mod Decision
pub mod Laws
pub mod Place
pub mod Inner
