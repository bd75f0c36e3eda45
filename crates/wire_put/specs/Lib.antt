pub mod Fields
pub mod Tables
pub mod Entries
pub mod Rows
pub mod Placed
