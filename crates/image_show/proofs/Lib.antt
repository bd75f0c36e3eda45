pub mod MapRows
pub mod RowLaws
pub mod QuietLaws
