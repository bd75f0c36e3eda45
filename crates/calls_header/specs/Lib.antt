pub mod Leaves
pub mod Asked
pub mod Grants
pub mod Acks
pub mod Outcomes
pub mod Fresh
pub mod Waits
pub mod Shows
