pub mod Never
pub mod Intact
pub mod Instance
