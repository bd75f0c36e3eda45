pub mod Numbers
pub mod Deeds
pub mod Acked
