pub mod Good
pub mod Tidy
pub mod Whole
