pub mod Refused
pub mod Vectors
pub mod Ends
pub mod Entries
