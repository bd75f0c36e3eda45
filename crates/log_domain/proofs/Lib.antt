pub mod InMessage
pub mod Bits
pub mod GrowthLaws
pub mod Tables
pub mod Messages
