pub mod Collecting
pub mod Weighing
pub mod Choosing
pub mod Pairs
pub mod Answered
