pub mod Words
pub mod Call
