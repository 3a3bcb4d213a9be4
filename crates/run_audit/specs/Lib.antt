-- The definitions of run_audit, a file each. Public contracts cite Audit; the crate's own steps and their proofs need
-- ForcedWord, Fronts, Marks and PartLeft.
pub mod Audit
pub mod Fronts
pub mod Marks
pub mod ForcedWord
pub mod PartLeft
