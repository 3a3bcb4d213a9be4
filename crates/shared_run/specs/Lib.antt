-- The definitions of shared_run, a file each.

-- those that contracts of public calls cite: the letters of a flow, and the run with its end and its result
pub mod RoundLetters
pub mod SharedHistory
pub mod Courses
pub mod SharedBooks
pub mod WholeRun
pub mod LiftedRun
pub mod SharedReports
-- those that only private contracts, invariants and proofs cite, and the laws of a run's course
pub mod RoundFlows
pub mod LiftedFlow
pub mod CourseLaws
