pub mod Sent
pub mod Requested
pub mod Aligning
