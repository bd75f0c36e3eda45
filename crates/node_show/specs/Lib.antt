pub mod Rows
pub mod Slots
pub mod Walks
pub mod Shows
