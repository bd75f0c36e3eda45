pub mod Apart
pub mod Table
pub mod Types
pub mod Put
pub mod Tables
pub mod NodeLaws
pub mod Cover
pub mod Frames
