pub mod NodeLaws
pub mod ListLaws
pub mod RoomLaws
pub mod Grown
pub mod Created
