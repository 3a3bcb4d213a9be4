-- The lemmas of int_roots, a file a topic.
pub mod RootLemmas
