pub mod Loops
pub mod RowLaws
pub mod Formed
pub mod Calls
pub mod View
