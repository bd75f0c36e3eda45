-- Laws that serve several functions' proofs.
pub mod Arms
pub mod Halves
pub mod Lanes
pub mod Quad
