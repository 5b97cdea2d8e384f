pub mod Pending
pub mod Speaker
pub mod LocalRoutes
pub mod Leaving
pub mod Opening
pub mod Changes
pub mod Laws
pub mod Inner
