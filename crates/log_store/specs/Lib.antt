pub mod View
pub mod Table
pub mod Store
pub mod Align
