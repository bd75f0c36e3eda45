pub mod Join
pub mod Answers
pub mod Collection
pub mod Words
