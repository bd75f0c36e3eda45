pub mod PartLaws
pub mod DigitLaws
