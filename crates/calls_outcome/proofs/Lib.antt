pub mod SettleLaws
pub mod OutcomeLaws
