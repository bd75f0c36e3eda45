pub mod Engine
pub mod Calls
pub mod Start
