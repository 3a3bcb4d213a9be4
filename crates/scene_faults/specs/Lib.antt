-- The definitions of scene_faults.
pub mod MemberFaults
pub mod RefusalText
