pub mod AnswerLaws
pub mod Some
pub mod Found
pub mod Steps
