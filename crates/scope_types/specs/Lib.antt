-- The definitions of scope_types, a file each. Public contracts cite WellScoped, over the files named ..Rules, and
-- Outcomes and ProgramWalk, over those named ..Walk.
pub mod ValueWords
pub mod Scope
pub mod Names
pub mod Cuts
pub mod WalkResults
pub mod ExpressionWalk
pub mod DeclarationWalk
pub mod CommandWalk
pub mod ProgramWalk
pub mod ExpressionRules
pub mod CommandRules
pub mod DeclarationRules
pub mod WellScoped
pub mod Outcomes
