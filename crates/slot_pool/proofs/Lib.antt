-- The lemmas of slot_pool, a file a topic.
pub mod RegionLemmas
pub mod FreeListLemmas
pub mod PoolLemmas
pub mod AsIsLemmas
