-- The lemmas of ccp.
mod ProcessLemmas
