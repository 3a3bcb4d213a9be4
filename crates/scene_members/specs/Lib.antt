-- The definitions of scene_members, a file each.

-- those that public contracts cite
pub mod Whole
pub mod NamedMembers
pub mod Traces
pub mod SharedMembers
pub mod Rollout
pub mod OpenCases
pub mod Plans
pub mod Values
pub mod Keys
-- those that they are made of
pub mod CaseWalk
pub mod CaseLists
pub mod Paths
pub mod SceneNames
-- those that only private contracts cite
pub mod Readers
