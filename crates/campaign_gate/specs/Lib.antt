-- The definitions of campaign_gate, a file each.

-- those that contracts of public calls cite: books, and what rows are to the programs and to the reports made
pub mod CampaignBooks
pub mod LiftedRow
pub mod RowReports
-- those that only private contracts, invariants and proofs cite
pub mod CaseRuns
pub mod ListedFlows
pub mod Shares
pub mod Parts
