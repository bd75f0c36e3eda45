pub mod Image
pub mod Tidy
pub mod Formed
pub mod Flags
pub mod Back
pub mod Types
pub mod Becomes
pub mod Counts
