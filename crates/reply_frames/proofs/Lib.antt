-- The lemmas of reply_frames, a file a topic.
pub mod Loops
pub mod Placing
pub mod Taken
pub mod BodyLaws
pub mod Exact
pub mod ExactParts
pub mod ExactFrames
pub mod FrameLaws
pub mod Codec
pub mod CodecFrames
pub mod FrameSizes
pub mod ReplyLaws
pub mod NeededLaw
