pub mod Named
pub mod Writes
