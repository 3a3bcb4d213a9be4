-- The lemmas of fold_run, a file a topic.
mod MachineMeans
pub mod FoldSteps
mod FirstLine
mod FirstWord
mod SeparatedLemmas
mod AcksLaws
mod LineCounts
mod CutLaws
pub mod NameLemmas
mod ItemLemmas
mod LineLemmas
mod OneValueLemmas
