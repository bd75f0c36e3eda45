pub mod Listed
pub mod Walk
pub mod Shown
