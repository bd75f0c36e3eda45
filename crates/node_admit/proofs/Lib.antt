pub mod AdmissionLaws
pub mod LeaseLaws
pub mod StepLaws
