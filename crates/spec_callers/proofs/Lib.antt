pub mod Editions
pub mod Searches
pub mod CountLaws
pub mod CallLaws
pub mod Opened
pub mod Cases
