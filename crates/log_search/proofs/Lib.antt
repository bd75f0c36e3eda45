pub mod Filling
pub mod Settled
pub mod Searching
pub mod Asked
pub mod Answered
