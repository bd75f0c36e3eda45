pub mod SignedLaws
pub mod Sizes
pub mod FloatsLaws
pub mod Places
