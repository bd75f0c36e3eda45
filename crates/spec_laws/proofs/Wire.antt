-- Laws of `Layout`, the chapter of bytes on the wire; the toolchain has a module of that name.
pub mod Tests
pub mod Bytes
pub mod Formats
pub mod Data
pub mod Messages
pub mod Requests
pub mod ShardOf
pub mod Limits
