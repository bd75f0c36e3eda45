pub mod Tuples
pub mod Counts
pub mod Closed
