pub mod RowLaws
pub mod Begun
