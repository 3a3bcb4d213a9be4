-- The definitions of flow_lists, a file each. Public contracts cite Outbox and ReservedLists, and of ReportWords what a
-- report's words are.
pub mod Outbox
pub mod ReportWords
pub mod ReservedLists
