-- The lemmas of mode_laws, a file a topic.
mod FeedLawLemmas
pub mod RowLaw
