pub mod FourLaws
pub mod ColumnLaws
pub mod Store
