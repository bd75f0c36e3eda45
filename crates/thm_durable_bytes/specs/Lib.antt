pub mod Cluster
pub mod Calls
pub mod Start
