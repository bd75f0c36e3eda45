pub mod Skips
pub mod Places
pub mod Commands
pub mod Messages
pub mod ShardOf
pub mod Decoded
pub mod Items
