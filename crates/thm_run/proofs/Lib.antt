pub mod Protocol
pub mod Simulation
pub mod Demand3
pub mod Entries
pub mod Paper
pub mod Instance
