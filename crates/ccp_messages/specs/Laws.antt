-- The laws of messages and frames, over what is read.
use Rattle.std.specs.Prelude.{◌≡◌, ℕ, ◌↔◌, List, [], Ok}
use Rattle.reply_frames.specs.declared.outline.Version.{Version}
use Rattle.reply_frames.specs.declared.outline.Version.TheVariants.{One, Two}
use Rattle.reply_frames.specs.Whole.{AreBytes}
use Rattle.reply_frames.specs.Frames.{Frame, frame_at}
use Rattle.ccp_messages.specs.declared.message.Message.{Message}
use Rattle.ccp_messages.specs.Messages.{Meets, IsNarrow, IsTyped, frame_bytes, message_of}

-- these bytes are one whole frame of the version, and it is read as the message
pub record IsReadAs (bytes : List ℕ) (message : Message) (version : Version) : Type 0 where
  pub are_bytes : AreBytes bytes
  pub frame : Frame
  pub whole : frame_at bytes ≡ Ok (frame, [])
  pub said : message_of frame.outline.flow frame.body ≡ message
  pub version_is : frame.outline.version ≡ version

-- some bytes are
abbrev pub HasFrame : Version → Message → Type 0
HasFrame version message = (bytes : List ℕ) × IsReadAs bytes message version

-- its frame is read as it, and nothing else is
abbrev pub HasOneFrame : Version → Message → Type 0
HasOneFrame version message =
    IsReadAs (frame_bytes version message) message version
    × ((bytes : List ℕ) → IsReadAs bytes message version → bytes ≡ frame_bytes version message)

-- a message that meets the conditions of a version has exactly one frame of it
abbrev pub OneFrame : Type 0
OneFrame =
    (version : Version) (message : Message) → IsTyped message → Meets version message → HasOneFrame version message

-- every other message has none
abbrev pub NoOther : Type 0
NoOther = (version : Version) (message : Message) → HasFrame version message → Meets version message

-- a message has a frame of version 1 exactly if it has one of version 2 and is narrow
abbrev pub BothVersions : Type 0
BothVersions =
    (message : Message) → IsTyped message → (HasFrame One message ↔ (HasFrame Two message × IsNarrow message))
