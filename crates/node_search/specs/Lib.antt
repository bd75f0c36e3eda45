pub mod Query
pub mod Searches
