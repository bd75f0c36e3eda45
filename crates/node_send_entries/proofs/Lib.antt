pub mod EntryLaws
pub mod EntriesLaws
