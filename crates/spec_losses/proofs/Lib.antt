pub mod Same
pub mod Loads
pub mod Exactly
pub mod Marked
pub mod Never23
pub mod Cases
pub mod Instance
