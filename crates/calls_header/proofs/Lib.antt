pub mod Asked
pub mod Leaves
pub mod Stays
pub mod Kept
pub mod Calls
pub mod Fresh
pub mod Waits
pub mod Starts
