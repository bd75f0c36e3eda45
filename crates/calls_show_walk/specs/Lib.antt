pub mod Rows
pub mod Seats
