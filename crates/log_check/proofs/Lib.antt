pub mod Answers
pub mod Domain
pub mod Fitting
pub mod Lookup
pub mod Played
pub mod Walking
