-- The definitions of run_ending, a file each.
pub mod Streams
pub mod Statuses
pub mod ErrorLine
pub mod SceneStops
pub mod Endings
