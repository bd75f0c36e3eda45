pub mod Four
pub mod Column
pub mod Nearest
