pub mod RoomLaws
pub mod Grown
pub mod Bytes
pub mod Batch
pub mod TableLaws
pub mod Columns
