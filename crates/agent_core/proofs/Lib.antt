-- The lemmas of agent_core, a file a topic.
pub mod FrameLemmas
pub mod ReplyLemmas
