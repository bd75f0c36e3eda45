pub mod ChangedRow
pub mod RememberLaws
pub mod SettledLaws
pub mod ChangedLaws
pub mod NodeLaws
pub mod Collections
pub mod Call
