pub mod Count
pub mod Hits
pub mod Found
pub mod Ends
