-- The lemmas of link_model, a file a topic.
mod TraceTextLemmas
mod TraceLemmas
pub mod ChanceLemmas
pub mod Whole
pub mod ServedLemmas
pub mod FlightLemmas
pub mod QueueLemmas
pub mod CountLemmas
pub mod Refinement
pub mod Compact
pub mod LossLemmas
pub mod HorizonLemmas
pub mod RunLemmas
pub mod SendingLemmas
pub mod LineLemmas
pub mod RingLemmas
mod WorkedRows
