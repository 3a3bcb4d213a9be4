-- The lemmas of reno_agent, a file a topic.
pub mod RoleLemmas
pub mod LawLemmas
