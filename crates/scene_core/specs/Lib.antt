-- The definitions of scene_core.
pub mod CasePlans
pub mod CompiledPrograms
