pub mod RowLaws
pub mod Calls
