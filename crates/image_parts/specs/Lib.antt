pub mod Shape
pub mod Codes
pub mod Parts
pub mod Canon
