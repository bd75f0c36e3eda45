pub mod Logs
pub mod Calls
pub mod Places
pub mod Lent
pub mod Begin
