pub mod Ids
pub mod Created
pub mod Cases
