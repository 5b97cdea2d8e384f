pub mod Direct
pub mod Port
pub mod Selection
pub mod Start
pub mod Vector
pub mod Inner
