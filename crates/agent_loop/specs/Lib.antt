-- The definitions of agent_loop, a file each.

-- those that contracts of public calls cite: the books of a live run
pub mod LiveBooks
-- those that only private contracts, invariants and proofs cite
pub mod Answering
pub mod Crews
