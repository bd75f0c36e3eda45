pub mod Tables
pub mod Change
pub mod Create
pub mod Apply
pub mod Place
pub mod Lightest
pub mod WellFormed
pub mod Calls
