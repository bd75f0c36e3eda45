pub mod CollectionLaws
pub mod ShardLaws
