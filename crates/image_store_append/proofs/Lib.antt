pub mod EntryLaws
pub mod Fits
pub mod Left
pub mod OpLaws
pub mod RowLaws
pub mod Stores
pub mod WordLaws
