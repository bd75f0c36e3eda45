pub mod Bytes
pub mod Keys
