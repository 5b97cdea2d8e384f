pub mod Encode
pub mod Octets
pub mod Refusal
pub mod Route
pub mod Ties
pub mod Totals
