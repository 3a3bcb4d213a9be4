-- The lemmas of open_flow, a file a topic.
pub mod EntryLemmas
pub mod ListLemmas
pub mod SeenLemmas
pub mod NextLemmas
pub mod LetterLemmas
pub mod RunLemmas
pub mod KeepsLemmas
pub mod OpenLemmas
pub mod OpeningLemmas
pub mod TurnLemmas
pub mod SendLemmas
