pub mod Places
pub mod DecidedLaws
pub mod CommandLaws
