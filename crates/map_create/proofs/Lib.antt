pub mod List
pub mod Walk
pub mod Create
