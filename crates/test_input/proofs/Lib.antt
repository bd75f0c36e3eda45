pub mod Front
pub mod StepLaws
pub mod Going
