pub mod HeedLaws
pub mod DeedLaws
pub mod AckLaws
