pub mod Parts
pub mod SetLaws
pub mod Place
pub mod VersionLaws
