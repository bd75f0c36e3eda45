pub mod Canon
pub mod Image
