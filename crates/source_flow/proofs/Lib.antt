-- The lemmas of source_flow, a file a topic.
pub mod EpochLineLemmas
pub mod HeardLemmas
pub mod SettledLemmas
pub mod GoodLemmas
pub mod WalkedLemmas
pub mod FoundLemmas
