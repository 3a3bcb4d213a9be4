-- The lemmas of campaign_report, a file a topic.
mod CompiledCounts
pub mod BookLemmas
mod InstallLemmas
mod LabelLemmas
mod LineLemmas
mod OwnLemmas
mod WorkedAcks
