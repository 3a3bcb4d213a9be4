-- The lemmas of shared_run, a file a topic.
pub mod TurnLemmas
pub mod RoundFlowLemmas
pub mod LikeFlows
pub mod LiftedFlowLemmas
pub mod LiftedRunLemmas
pub mod AnswerLemmas
pub mod CountLemmas
pub mod RoomyLemmas
pub mod CourseLemmas
pub mod BookLemmas
pub mod KeptLemmas
pub mod RunLemmas
pub mod ReportLemmas
