-- The definitions of campaign_report, a file each. Public contracts cite all but the last.
pub mod FoldText
pub mod CheckText
pub mod WireText
pub mod TableText
pub mod BookText
pub mod BooksRead
pub mod AcksText
-- only private contracts and proofs cite this one
pub mod AckLabels
