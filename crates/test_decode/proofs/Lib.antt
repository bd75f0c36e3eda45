-- The roots of the laws.
pub mod Held
