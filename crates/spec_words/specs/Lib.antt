pub mod Decimal
pub mod Texts
pub mod Words
pub mod Calls
pub mod Small
