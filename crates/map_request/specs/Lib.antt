pub mod Parts
pub mod Read
