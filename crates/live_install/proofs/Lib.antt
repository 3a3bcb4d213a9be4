-- The lemmas of live_install, a file a topic.
pub mod OptionLemmas
pub mod DutyLemmas
pub mod NumberLemmas
pub mod BookLemmas
pub mod CountLemmas
pub mod DigitLemmas
pub mod WorldCountLemmas
pub mod ShownLemmas
pub mod WordsShownLemmas
pub mod WholeLemmas
pub mod SendLemmas
