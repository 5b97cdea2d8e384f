pub mod Bpdu
pub mod Id
pub mod Numbers
pub mod Reading
pub mod Refusal
pub mod Writing
pub mod Inner
