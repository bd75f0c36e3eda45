-- Laws of the definitions of 'Nearest objects', one file a subject.
pub mod Tests
pub mod Classes
pub mod Patterns
pub mod Total
pub mod Domain
pub mod Rank
pub mod Search
pub mod Select
pub mod Root
pub mod Exact
pub mod Skip
pub mod Bounds
pub mod Sums
pub mod NoNan
pub mod Start
