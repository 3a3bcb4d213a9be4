-- The lemmas of ccp_messages, a file a topic.
pub mod CodeLaws
pub mod ReasonLaws
pub mod MessageLaws
pub mod DecodeLaws
pub mod Encoding
pub mod Reading
