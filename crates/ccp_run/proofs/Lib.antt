-- The lemmas of ccp_run, a file a topic.
mod FoldLemmas
mod ModeLaws
mod ScenarioInputs
mod DriveModes
mod AloneModes
mod WorkerModes
pub mod RunLemmas
mod FeedRunLemmas
pub mod DriveFronts
pub mod DriveFrames
mod DriveSessions
pub mod DriveRuns
pub mod DriveRunLemmas
pub mod DriveTextRuns
mod DriveLawLemmas
mod CompleteRuns
pub mod ReadLemmas
mod CodedLemmas
pub mod CampaignLemmas
pub mod LiveLemmas
pub mod TimelineLemmas
pub mod AuditLemmas
mod AcksBackLemmas
mod AlikeLemmas
pub mod PlannedLemmas
mod RowLaw
mod AuditedLemmas
pub mod SharedLemmas
pub mod SeriesLemmas
pub mod RolloutLemmas
