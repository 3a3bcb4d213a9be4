-- The definitions of scenario_json, a file each.

-- those that public contracts cite
pub mod Scene
pub mod ScenePrograms
pub mod Cases
pub mod SharedScenes
pub mod Rollout
pub mod Soak
-- those that only private contracts cite
pub mod ParsedScenes
pub mod Readers
