-- The lemmas of scenario_json, a file a topic.
pub mod CaseLemmas
pub mod DrawLemmas
pub mod ProgramLemmas
pub mod SceneLemmas
