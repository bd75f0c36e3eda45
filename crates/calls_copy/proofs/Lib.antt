pub mod BatchLaws
pub mod CopyLaws
