pub mod Lend
pub mod Put
pub mod Slots
