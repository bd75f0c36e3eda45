pub mod Row
pub mod Version
