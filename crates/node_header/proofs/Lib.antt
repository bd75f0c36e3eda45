pub mod Lists
pub mod Formed
pub mod Shards
pub mod Calls
pub mod Grow
pub mod Arrays
