-- The definitions of reg_compiler, a file each. Public contracts cite Refusal, Simulation, Counts, Known and
-- CompiledCode, over Needs, and those of crates above also Sources; Numbered is for private contracts.
pub mod Known
pub mod Needs
pub mod Counts
pub mod Refusal
pub mod Simulation
pub mod CompiledCode
pub mod Numbered
pub mod Sources
