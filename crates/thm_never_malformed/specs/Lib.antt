pub mod Intact
pub mod Calls
