-- The lemmas of range_cases, a file a topic.
pub mod BlockLemmas
pub mod CaseLemmas
pub mod CommandLemmas
pub mod ConditionLemmas
pub mod RangeLemmas
pub mod TermLemmas
