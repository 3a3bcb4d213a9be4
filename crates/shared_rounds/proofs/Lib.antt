-- The lemmas of shared_rounds, a file a topic.
pub mod RoundsLemmas
pub mod OrderLemmas
pub mod KnownLemmas
