pub mod Entries
pub mod Conditions
