pub mod Rows
pub mod VectorLaws
pub mod EndLaws
pub mod EntryLaws
