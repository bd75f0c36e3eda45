pub mod InMessage
pub mod OpLaws
pub mod Stores
pub mod Batch
pub mod Messages
