pub mod Columns
pub mod Families
pub mod Ring
