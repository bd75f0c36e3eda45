pub mod Format
pub mod Parts
pub mod Request
pub mod Message
pub mod Writable
pub mod ShardOf
