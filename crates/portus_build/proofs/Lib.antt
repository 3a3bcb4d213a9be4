-- The lemmas of portus_build, a file a topic.
pub mod BuiltinLemmas
mod LookLemmas
pub mod AnswerLemmas
mod Refusing
pub mod SettledTexts
pub mod WalkLemmas
