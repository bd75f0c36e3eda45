pub mod NameLaws
pub mod Tables
pub mod Defaults
pub mod Rows
