-- The lemmas of driven_flow, a file a topic.
pub mod DrivenWordLemmas
pub mod StepLemmas
pub mod StateLemmas
pub mod DrivenLiftLemmas
pub mod DrivenTextLemmas
pub mod ReplyLemmas
pub mod AgentLemmas
pub mod FrontLineLemmas
pub mod FrontReading
pub mod FrontLaws
mod WorkedDriven
pub mod SpanLemmas
pub mod SessionLemmas
pub mod SessionLawLemmas
pub mod AfterEndLemmas
mod WorkedSession
