-- Demand 3 put to a run of the calls in which an alignment comes twice and late (request 2.3).
pub mod Calls
pub mod Run
