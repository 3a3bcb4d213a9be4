-- The lemmas of fold_machine, a file a topic.
pub mod StoreLemmas
pub mod LayoutLemmas
pub mod WorkingWordLemmas
pub mod LoadLemmas
pub mod KeptLemmas
pub mod RunnableLemmas
pub mod RefinementLemmas
pub mod FormLemmas
pub mod FlagLemmas
pub mod FlatLemmas
pub mod FlatEntryLemmas
pub mod FlatEndLemmas
pub mod FlatWayLemmas
pub mod WorkLemmas
pub mod MachineLemmas
pub mod WindowLemmas
