pub mod Bytes
pub mod Walks
pub mod Buckets
pub mod Cursors
pub mod MergeLaws
pub mod Counted
pub mod Calls
