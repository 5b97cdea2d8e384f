pub mod Owners
pub mod Stations
pub mod Counts
pub mod Peers
pub mod EdgeViews
pub mod LinkLines
pub mod Inner
