-- The lemmas of portus_core, a file a topic.
pub mod EnvShapes
pub mod EventLaws
pub mod ResetLemmas
pub mod RunLemmas
pub mod ValidIsRunnable
pub mod WorkedCases
