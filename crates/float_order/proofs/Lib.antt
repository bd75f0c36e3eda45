-- Laws that serve several functions' proofs.
pub mod Places
