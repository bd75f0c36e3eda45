pub mod Names
pub mod View
pub mod Find
pub mod Counted
