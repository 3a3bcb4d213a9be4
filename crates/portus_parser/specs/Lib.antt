-- The definitions of portus_parser, a file each. Public contracts cite Outcomes, Spelling, Refusals, Atoms and
-- PrintedBack; Readings and LexFaults are for private contracts.
pub mod LexFaults
pub mod Atoms
pub mod Spelling
pub mod Refusals
pub mod Readings
pub mod Outcomes
pub mod PrintedBack
