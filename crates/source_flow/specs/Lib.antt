-- The definitions of source_flow, a file each.

-- those that contracts of public calls cite: the account of a word, and the sources that a case needs
pub mod SourceAccounts
pub mod Sourced
-- those that only private contracts, invariants and proofs cite
pub mod SourceStates
pub mod SourceSteps
pub mod SourceWalks
pub mod SourceMoves
