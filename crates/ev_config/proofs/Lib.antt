pub mod Walking
pub mod Counting
pub mod Adding
pub mod Opening
pub mod Cables
pub mod Lines
