-- The definitions of live_install, a file each.

-- those that contracts of public calls cite: what letters make of a flow, its book, and the text
pub mod Hearings
pub mod WholeBooks
pub mod RolloutText
pub mod BookText
pub mod WordsShown
-- those that only private contracts, invariants and proofs cite
pub mod RolloutFlows
pub mod Installing
pub mod Crews
