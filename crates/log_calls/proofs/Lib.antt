pub mod FitLaws
pub mod Calls
pub mod AppendLaws
pub mod ArriveLaws
pub mod AdoptLaws
pub mod Copies
