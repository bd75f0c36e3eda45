pub mod View
pub mod Formed
pub mod Answers
pub mod Arrays
pub mod Slots
pub mod Grow
