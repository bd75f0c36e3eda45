-- Runs that the checker computes: the rules of a run are not about nothing, and what happens where one of them is broken.
pub mod Opened
pub mod Start
pub mod Fresh
pub mod Promotion
pub mod ShrinkExpand
pub mod Loss
pub mod OlderEntry
pub mod LoneEntry
pub mod LateAlignment
pub mod OutcomeOnce
pub mod Lost
pub mod SeqOnce
pub mod OnlyPromote
pub mod OwnWorker
pub mod Paper
