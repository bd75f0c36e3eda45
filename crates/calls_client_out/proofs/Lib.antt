pub mod CountLaws
pub mod HitLaws
pub mod Room
pub mod Found
pub mod Ends
