-- The lemmas of reg_code, a file a topic.
pub mod DecimalLemmas
pub mod FlatLemmas
pub mod FlatNumberLemmas
pub mod PackedLemmas
pub mod RanLaws
pub mod SoundLemmas
pub mod WorkedCases
