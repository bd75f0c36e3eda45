pub mod Canon
pub mod Beside
