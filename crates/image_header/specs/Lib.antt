pub mod Image
pub mod Becomes
