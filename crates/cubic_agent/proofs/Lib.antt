-- The lemmas of cubic_agent, a file a topic.
pub mod RoleLemmas
pub mod LawLemmas
