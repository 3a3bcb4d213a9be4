-- The definitions of portus_build, a file each.

-- those that public contracts cite
pub mod Texts
pub mod Outcomes
pub mod Settled
pub mod TextWalk
pub mod Builtins
pub mod BuiltinPrograms
pub mod Looks
pub mod RefusalText
pub mod StepFaults
