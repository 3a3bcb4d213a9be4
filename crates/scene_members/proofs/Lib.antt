-- The lemmas of scene_members, a file a topic.
pub mod ListLemmas
pub mod LossLemmas
pub mod OpenLemmas
pub mod TableLemmas
pub mod TextLemmas
