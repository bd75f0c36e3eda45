pub mod Compared
pub mod OnLoads
pub mod Instance
