pub mod FreshLaws
pub mod ShowLaws
pub mod Quiet
pub mod Change
