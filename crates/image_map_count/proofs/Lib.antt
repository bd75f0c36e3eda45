pub mod Ids
pub mod SumLaws
pub mod Room
pub mod TestLaws
pub mod SixLaws
pub mod Answer
