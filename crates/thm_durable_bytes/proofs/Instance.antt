-- A run over image bytes that the checker follows, and the theorem put to it: a lease grant, a Write, a wait that says done.
pub mod Start
pub mod Run
