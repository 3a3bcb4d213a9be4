-- The definitions of ccp_run, a file each.

-- those that contracts of public calls cite: the rules of each mode, a whole run, and how the reading of an input of
-- `drive` ends
pub mod Rules
pub mod Check
pub mod Fold
pub mod FeedRuns
pub mod PlannedCases
pub mod DriveInputs
pub mod Drive
pub mod Scenes
pub mod Campaign
pub mod Soak
pub mod Live
pub mod Timeline
pub mod AcksRuns
pub mod AuditRuns
pub mod Shared
pub mod SharedSeries
pub mod Rollout
pub mod Modes
pub mod Run
pub mod Complete
pub mod DriveEnds
pub mod Settled
pub mod TextLaws
pub mod SharedLaws
pub mod DriveLaws
pub mod Tool
-- of this one, the contract of a run cites `MakesOutput` and `RefusesAny`; the rest, and the files after it, only
-- private contracts and proofs cite
pub mod Attempts
pub mod FeedEndings
pub mod DriveTexts
