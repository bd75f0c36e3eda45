pub mod Hits
pub mod Placing
pub mod Chosen
pub mod Rearranged
pub mod Writing
