-- The definitions of portus_core, a file each. Public contracts, here and above, cite all but Progress and
-- Runnable, which are for private contracts.
pub mod Trees
pub mod Programs
pub mod Words
pub mod ValidPrograms
pub mod Value
pub mod Command
pub mod Blocks
pub mod OneAcknowledgement
pub mod Epoch
pub mod Reports
pub mod ProgramForm
pub mod Progress
pub mod Runnable
pub mod PrintedTree
