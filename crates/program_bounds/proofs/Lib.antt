-- The lemmas of program_bounds, a file a topic.
pub mod BeginLemmas
pub mod BoundedLemmas
pub mod ConclusionLemmas
pub mod ResetLemmas
pub mod SettleLemmas
pub mod TurnLemmas
pub mod UpdateLemmas
