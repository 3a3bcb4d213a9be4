-- The definitions of agent_core, a file each.

-- those that public contracts cite
pub mod Agents
pub mod Answers
pub mod Kinds
-- what definitions and proofs of the crates above use
pub mod RoleLaws
