-- The definitions of reply_frames, a file each; files named ..Laws have what follows from them. Public contracts cite
-- all of them; the contracts of readers and writers of parts cite Parts and Writing.
pub mod Parts
pub mod Kinds
pub mod Frames
pub mod Bodies
pub mod ValueBytes
pub mod FrameBytes
pub mod Writing
pub mod Whole
pub mod Decoding
pub mod Laws
pub mod Replies
