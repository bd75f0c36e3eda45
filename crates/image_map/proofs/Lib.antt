pub mod Image
pub mod Canon
pub mod Tables
pub mod Back
