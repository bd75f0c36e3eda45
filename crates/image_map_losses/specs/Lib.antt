pub mod Left
pub mod Codes
