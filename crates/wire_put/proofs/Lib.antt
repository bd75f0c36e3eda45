pub mod Writes
pub mod Pairs
pub mod Entries
pub mod Rows
pub mod Placed
