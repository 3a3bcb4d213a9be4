-- The definitions of shared_rounds, a file each.
pub mod Rounds
pub mod Orders
pub mod KnownFlows
pub mod RunStarts
