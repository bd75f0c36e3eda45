pub mod View
pub mod Buckets
pub mod Owners
pub mod Cursors
pub mod Merge
pub mod Calls
