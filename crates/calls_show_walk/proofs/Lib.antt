pub mod RowLaws
pub mod WalkLaws
pub mod SlotLaws
pub mod PutLaws
pub mod Told
