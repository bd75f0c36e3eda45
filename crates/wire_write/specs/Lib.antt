pub mod Written
pub mod Requests
pub mod Tables
pub mod Rows
