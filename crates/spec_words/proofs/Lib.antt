pub mod Decimal
pub mod Read
pub mod Fixes
pub mod Calls
pub mod Lengths
pub mod Roomy
pub mod Cases
pub mod Instances
