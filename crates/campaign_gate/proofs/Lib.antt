-- The lemmas of campaign_gate, a file a topic.
pub mod GivenLemmas
pub mod CaseRunLemmas
pub mod ListedLemmas
pub mod ShareLemmas
pub mod BookLemmas
pub mod RowReportsLemmas
pub mod LiftedRowLemmas
