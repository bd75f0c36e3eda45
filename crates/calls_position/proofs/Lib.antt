pub mod Pattern
pub mod Bytes
pub mod Answered
pub mod Vector
pub mod Cases
