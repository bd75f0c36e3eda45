pub mod Losses
pub mod Loads
