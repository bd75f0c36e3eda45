pub mod AnswerLaws
pub mod KeyLaws
