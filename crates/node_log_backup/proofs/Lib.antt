pub mod Backup
pub mod Begun
