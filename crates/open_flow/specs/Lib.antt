-- The definitions of open_flow, a file each.

-- those that contracts of public calls cite, here and in the crate above: the state of a flow, its entries and its book
pub mod OpenWorld
pub mod OpenWords
pub mod BuiltTexts
pub mod Entries
pub mod OpenCells
pub mod OpenBooks
pub mod NextLetter
-- those that only private contracts, invariants and proofs cite
pub mod Accounts
pub mod States
pub mod Openings
