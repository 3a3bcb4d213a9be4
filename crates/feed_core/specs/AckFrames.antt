-- The frame of an acknowledgement: its length and its head.
use Rattle.std.specs.Prelude.{ℕ, List}
use Rattle.reply_frames.specs.declared.outline.FrameKind.TheVariants as kinds
use Rattle.reply_frames.specs.declared.outline.Version.{Version}
use Rattle.reply_frames.specs.declared.outline.Version.TheVariants.{One}
use Rattle.reply_frames.specs.Kinds.{size_of}
use Rattle.reply_frames.specs.FrameBytes.{counts, outline_bytes}

-- its length, in both versions
abbrev pub ack_length : ℕ
ack_length = size_of kinds.Ack One (counts 0 0 0 0)

-- its head in a version, for a flow
abbrev pub ack_head : Version → ℕ → List ℕ
ack_head version flow =
    outline_bytes (record { kind = kinds.Ack; version = version; counts = counts 0 0 0 0; flow = flow })
