pub mod Becomes
pub mod Edits
pub mod Other
