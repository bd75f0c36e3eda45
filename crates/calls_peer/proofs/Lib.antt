pub mod Serves
pub mod States
pub mod Messages
pub mod Ways
