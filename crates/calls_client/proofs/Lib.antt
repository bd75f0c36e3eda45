pub mod Searched
pub mod Written
