pub mod Sheet
pub mod Case
