pub mod Search
pub mod Column
