pub mod Positions
pub mod Sizes
