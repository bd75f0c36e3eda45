pub mod Answer
pub mod Entry
pub mod EntryLaws
pub mod Table
pub mod Step
