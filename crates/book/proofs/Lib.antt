pub mod Walks
pub mod Lookups
