pub mod Rows
pub mod Stands
pub mod Loads
