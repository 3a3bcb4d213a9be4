-- The definitions of live_lines, a file each: lines of a live text with any word for the agent and any reply, the
-- places of faults, and a flow's part after its first line.
pub mod FlowLabels
pub mod AnsweredLines
pub mod FaultPlaces
pub mod FlowParts
