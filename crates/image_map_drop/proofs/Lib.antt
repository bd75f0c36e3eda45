pub mod Kept
pub mod Drop
