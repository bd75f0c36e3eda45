pub mod HitLaws
pub mod HeldLaws
pub mod Message
