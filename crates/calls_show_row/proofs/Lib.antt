pub mod Grow
pub mod LeaveLaws
pub mod NewsLaws
pub mod PeerLaws
pub mod RowLaws
pub mod SetLaws
pub mod StartLaws
