-- The lemmas of feed_core, a file a topic.
mod AckFrames
mod AnswerParts
pub mod FeedBegins
mod FeedEats
mod FeedEnding
mod FeedInput
mod FeedKept
mod FeedLemmas
mod FeedSteps
mod FrameEnds
pub mod FrameLawLemmas
mod RefusalLemmas
mod RestLemmas
pub mod StreamEnds
mod TurnLemmas
