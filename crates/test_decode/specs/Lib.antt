-- The roots of the definitions.
pub mod Held
