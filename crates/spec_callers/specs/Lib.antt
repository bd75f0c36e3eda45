pub mod Editions
pub mod Counts
pub mod Calls

-- Paper 02, 2.8: Write and Search that name their caller, and whose calls were refused.
