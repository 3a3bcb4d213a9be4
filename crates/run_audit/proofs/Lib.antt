-- The lemmas of run_audit, a file a topic.
pub mod ForcedLemmas
pub mod WorldMarks
pub mod Pieces
pub mod LineReadings
pub mod FrontLemmas
pub mod PartLemmas
pub mod VerdictLemmas
pub mod JudgeSteps
pub mod NameLemmas
pub mod WordsLemmas
