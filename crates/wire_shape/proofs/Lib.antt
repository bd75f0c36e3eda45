pub mod Skips
pub mod Commands
