-- The definitions of shared_link, a file each; files named ..Laws have what follows from them.
-- Public contracts cite SharedLaws, SharedLimits, SharedRounds, SharedStanding and UnratedAcks. Kept, KeptFlows and
-- Reached belong to the proofs: they say what a link keeps and how it moves from step to step.
pub mod Kept
pub mod KeptFlows
pub mod Reached
pub mod SharedLaws
pub mod SharedLimits
pub mod SharedRounds
pub mod SharedStanding
pub mod UnratedAcks
