-- The definitions of flow_core, a file each; files named ..Laws have what follows from them.

-- those that contracts of public calls cite, here and in the crates above: a flow's state and its word, what is kept of
-- it, and the text of a live run
pub mod Readings
pub mod World
pub mod Cases
pub mod ReadsRates
pub mod Words
pub mod Lift
pub mod Books
pub mod Cores
pub mod Cells
pub mod LiveText
pub mod LettersLeft
pub mod Runnings
pub mod Summaries
pub mod SummaryLaw
pub mod Bares
pub mod BookFlows
-- those that only private contracts, invariants and proofs cite
pub mod WordLaws
pub mod States
pub mod MachineCalls
pub mod Journals
