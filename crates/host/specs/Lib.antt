pub mod Version

-- The version of the entry points for C.
