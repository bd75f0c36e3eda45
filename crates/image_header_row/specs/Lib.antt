pub mod Rows
pub mod Tidy
