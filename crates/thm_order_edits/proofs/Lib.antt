pub mod Appends
pub mod Searches
pub mod BothAccepted
pub mod Order
pub mod OrderSearched
pub mod Instance
