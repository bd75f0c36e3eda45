pub mod Keys
pub mod SlotList
pub mod Slots
