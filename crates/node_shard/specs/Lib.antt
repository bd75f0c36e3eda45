pub mod View
pub mod Formed
pub mod Answers
pub mod Acks
pub mod Shows
