pub mod Leave
pub mod Peers
pub mod Row
pub mod Set
