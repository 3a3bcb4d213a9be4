-- The lemmas of portus_lexer, a file a topic.
pub mod ByteKinds
pub mod Divisions
pub mod Scans
pub mod Uniqueness
pub mod StrayScans
pub mod StraySteps
pub mod Slices
pub mod Laws
