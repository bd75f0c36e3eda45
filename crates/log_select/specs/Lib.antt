pub mod Selectable
pub mod Chosen
pub mod Written
