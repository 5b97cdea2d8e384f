pub mod Migrated
pub mod Originators
pub mod Progressing
pub mod Report
