pub mod ClientWrites
