-- Paper 01: cases that the checker computes.
pub mod Starred
pub mod NearMisses
pub mod Guards
pub mod Numbers
pub mod Commands
pub mod Placing
pub mod Full
pub mod Malformed
pub mod Bytes
pub mod Serving
pub mod Storing
pub mod Nearest
pub mod Example
pub mod Edits
