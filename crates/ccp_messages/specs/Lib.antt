-- The definitions of ccp_messages, a file each. Public contracts cite Reasons, Messages (over CodeParts), Decoding and
-- Laws.
pub mod CodeParts
pub mod Reasons
pub mod Messages
pub mod Decoding
pub mod Laws
