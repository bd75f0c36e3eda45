-- Every run of the paper is one that the rules allow: Rules.antt of spec_run is looser, and not otherwise.
pub mod Sessions
pub mod Turns
pub mod Kept
pub mod Events
pub mod Beside
pub mod Allowed
