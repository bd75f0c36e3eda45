pub mod QueryLaws
pub mod Named
pub mod Held
pub mod Searches
