pub mod Images
pub mod Tests
pub mod CodeLaws
pub mod Back
pub mod Canon
pub mod Types
pub mod Tidied
