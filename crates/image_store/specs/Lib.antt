pub mod Image
pub mod Read
pub mod Write
