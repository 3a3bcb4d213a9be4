-- The lemmas of ccp_base, a file a topic.
pub mod PartLemmas
pub mod DecimalLemmas
pub mod StreamLemmas
