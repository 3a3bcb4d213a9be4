-- The definitions of driven_flow, a file each.

-- those that contracts of public calls cite: a driven flow's state after its word, that of an agent's flow, the driven
-- flow's case that a scenario's case says, the scenario before a stream's frames, a session of flows, and a flow's part
-- of the live text
pub mod Driven
pub mod AgentLaw
pub mod DrivenCases
pub mod Front
pub mod Session
pub mod DrivenText
pub mod SessionLaws
pub mod AfterEnd
-- those that only private contracts, invariants and proofs cite
pub mod DrivenSteps
pub mod DrivenJournals
pub mod DrivenStates
pub mod FrontLines
pub mod SessionHolds
pub mod DrivenAccounts
