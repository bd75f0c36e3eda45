pub mod Command
pub mod Apply
pub mod Ways
