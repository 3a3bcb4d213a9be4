-- The lemmas of flow_lists, a file a topic.
pub mod ReportWordLemmas
pub mod OutboxLemmas
