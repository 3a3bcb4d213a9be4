-- The definitions of feed_core, a file each.

-- those that contracts of public calls cite: the answer to a message, an input's answers and end, out of memory, the
-- bytes that a read adds, the refusals, and the laws of frames
pub mod Feed
pub mod FeedHolds
pub mod FeedBytes
pub mod Answering
pub mod FeedEnds
pub mod FeedLacks
pub mod Rests
pub mod Refusals
pub mod FrameLaws
-- those that only private contracts, invariants and proofs cite
pub mod AckFrames
pub mod FeedStops
pub mod FeedTurns
pub mod FeedLast
