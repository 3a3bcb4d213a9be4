-- The definitions of reno_agent, a file each. Public contracts cite all.
pub mod Reno
-- what follows from them
pub mod RenoLaws
