pub mod View
pub mod Admits
pub mod Headers
pub mod Steps
