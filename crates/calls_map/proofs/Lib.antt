pub mod NumberLaws
pub mod Kept
pub mod Formed
pub mod Apply
pub mod Empty
pub mod ListLaws
pub mod Placement
pub mod Places
