-- The lemmas of flow_table, a file a topic.
pub mod BookLemmas
pub mod LedLemmas
pub mod NumberLemmas
pub mod TurnLemmas
