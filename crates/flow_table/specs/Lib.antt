-- The definitions of flow_table, a file each.

-- those that contracts of public calls cite: the numbers of cases, what letters make of a flow, its book, and the duties
-- of datapath workers
pub mod NumberedCases
pub mod NextLetter
pub mod Hearings
pub mod WholeBooks
pub mod Led
pub mod Duties
-- those that only private contracts, invariants and proofs cite
pub mod HeldFlows
