-- The lemmas of campaign_core, a file a topic.
pub mod PlanLemmas
pub mod PeakLemmas
pub mod BoundLemmas
pub mod SumLemmas
pub mod SourceReadings
pub mod ReportsMadeLemmas
pub mod GivenFlowLemmas
