pub mod Each
pub mod Ranking
