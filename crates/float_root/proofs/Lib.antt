pub mod AnyRoot
pub mod Floats
pub mod Roots
pub mod Scale
pub mod Settle
