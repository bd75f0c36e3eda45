pub mod State
pub mod Event
pub mod Source
pub mod Step
pub mod Rules
pub mod Fresh
pub mod Paper
pub mod Claim

-- Paper 01, 'Rules of a run': the run of one shard.
