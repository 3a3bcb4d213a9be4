-- The kinds of frames: their numbers, the bounds of their counts, and their lengths.
use Rattle.std.specs.Prelude.{ℕ, ◌+◌, ◌*◌, ◌==◌, if◌then◌else◌}
use Rattle.ccp_base.specs.Limits.{most_fields, most_short_fields, most_controls, most_blocks, most_instrs, most_pairs, primitive_count}
use Rattle.reply_frames.specs.declared.outline.FrameKind.{FrameKind}
use Rattle.reply_frames.specs.declared.outline.FrameKind.TheVariants.{Create, Measure, Install, Update, Change, Fault, Ack, Refused}
use Rattle.reply_frames.specs.declared.outline.Version.{Version}
use Rattle.reply_frames.specs.declared.outline.Version.TheVariants.{One, Two}
use Rattle.reply_frames.specs.declared.outline.Counts.{Counts}

-- the number of a kind, in a frame's first byte
abbrev pub kind_number : FrameKind → ℕ
kind_number Create = 1
kind_number Measure = 2
kind_number Install = 3
kind_number Update = 4
kind_number Change = 5
kind_number Fault = 6
kind_number Ack = 7
kind_number Refused = 8

-- the kind of a number from 1 to 8
abbrev pub kind_numbered : ℕ → FrameKind
kind_numbered n =
    if n == 1 then Create else
    if n == 2 then Measure else
    if n == 3 then Install else
    if n == 4 then Update else
    if n == 5 then Change else
    if n == 6 then Fault else
    if n == 7 then Ack else Refused

-- the number of a version, in a frame's second byte
abbrev pub version_number : Version → ℕ
version_number One = 1
version_number Two = 2

abbrev pub version_of : ℕ → Version
version_of n = if n == 1 then One else Two

-- the most that each count may be: fields, reports or values; controls; events; instructions
abbrev pub most_n1 : FrameKind → Version → ℕ
most_n1 Create version = 0
most_n1 Measure One = most_short_fields
most_n1 Measure Two = most_fields
most_n1 Install One = most_short_fields
most_n1 Install Two = most_fields
most_n1 Update version = most_pairs
most_n1 Change version = most_pairs
most_n1 Fault version = 0
most_n1 Ack version = 0
most_n1 Refused version = 0

abbrev pub most_n2 : FrameKind → ℕ
most_n2 Install = most_controls
most_n2 kind = 0

abbrev pub most_n3 : FrameKind → ℕ
most_n3 Install = most_blocks
most_n3 kind = 0

abbrev pub most_n4 : FrameKind → ℕ
most_n4 Install = most_instrs
most_n4 kind = 0

-- the length of a head, in bytes
abbrev pub head_bytes : ℕ
head_bytes = 16

-- the length of an Update with this many values, in bytes
abbrev pub update_size : ℕ → ℕ
update_size count = 16 + 10 * count

-- the length of a Change with this many values, in bytes
abbrev pub change_size : ℕ → ℕ
change_size count = 20 + 10 * count

-- the length of the whole frame, in bytes
abbrev pub size_of : FrameKind → Version → Counts → ℕ
size_of Create version c = 28
size_of Measure One c = 56 + 8 * c.n1
size_of Measure Two c = 64 + 8 * c.n1
size_of Install version c = 20 + 9 * c.n1 + 9 * c.n2 + 4 * c.n3 + 28 * c.n4
size_of Update version c = update_size c.n1
size_of Change version c = change_size c.n1
size_of Fault One c = 47
size_of Fault Two c = 51
size_of Ack version c = 16 + 8 * primitive_count
size_of Refused version c = 21
