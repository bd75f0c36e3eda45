pub mod AdmissionLaws
pub mod Step
