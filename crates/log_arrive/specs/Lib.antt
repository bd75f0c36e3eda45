pub mod Parts
pub mod Arrivals
