-- The lemmas of value_ranges, a file a topic.
pub mod QuotientLemmas
pub mod AverageLemmas
