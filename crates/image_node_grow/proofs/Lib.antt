pub mod GrowLaws
pub mod Ops
pub mod Kept
