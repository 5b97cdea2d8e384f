pub mod Station
pub mod Entry
pub mod Orders
pub mod Learning
pub mod ListsName
pub mod Laws
pub mod Nodes
pub mod Inner
