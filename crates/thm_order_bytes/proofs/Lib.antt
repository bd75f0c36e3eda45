pub mod Writes
pub mod Searches
pub mod Order
pub mod Written
pub mod Calls
pub mod Instance
pub mod Searched
