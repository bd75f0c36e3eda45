pub mod FieldLaws
pub mod Bounds
pub mod Laws
pub mod FloatLaws
pub mod Refusals
pub mod Cases
pub mod Instances
