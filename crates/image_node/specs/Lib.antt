pub mod Lent
pub mod State
