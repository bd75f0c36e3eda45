pub mod Parts
pub mod Growth
