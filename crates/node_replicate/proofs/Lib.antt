pub mod Named
pub mod Peers
