-- What reading an Update or a Change from the front of bytes gives.
use Rattle.std.specs.Prelude.{◌≡◌, ◌≢◌, ℕ, ◌-◌, nat_lt, List, length, take, drop, Option, Some, None, Result, Ok, Err, if◌then◌else◌}
use Rattle.std.specs.Int.{w32, from_le_bytes}
use Rattle.ccp_base.specs.FieldReg.{Pair}
use Rattle.reply_frames.specs.declared.fault.Stop.{Stop}
use Rattle.reply_frames.specs.declared.fault.Stop.TheVariants as stops
use Rattle.reply_frames.specs.declared.fault.FrameFault.{FrameFault}
use Rattle.reply_frames.specs.declared.fault.FrameFault.TheVariants.{More, Bad, Other}
use Rattle.reply_frames.specs.declared.outline.FrameKind.{FrameKind}
use Rattle.reply_frames.specs.declared.outline.FrameKind.TheVariants as kinds
use Rattle.reply_frames.specs.declared.outline.Outline.{Outline}
use Rattle.reply_frames.specs.declared.decode.ReplyHead.{ReplyHead}
use Rattle.reply_frames.specs.Parts.{Read}
use Rattle.reply_frames.specs.Kinds.{kind_number, head_bytes}
use Rattle.reply_frames.specs.Whole.{BeginsWithFrame}
use Rattle.reply_frames.specs.Frames.{Frame, Body, Update, Change, frame_at}

-- how many bytes the front of a frame needs: a head's 16, or the length that the head says
unfoldable pub needed_of : List ℕ → ℕ
needed_of bytes = if nat_lt (length bytes) head_bytes then head_bytes else from_le_bytes w32 (take 4 (drop 12 bytes))

-- why reading stopped
abbrev pub frame_fault : List ℕ → Stop → FrameFault
frame_fault bytes stops.Cut = More (needed_of bytes)
frame_fault bytes (stops.Bad kind left) = Bad kind (length bytes - left)

abbrev pub head_of : Outline → Option ℕ → ℕ → ReplyHead
head_of outline program used = record { flow = outline.flow; program = program; version = outline.version; used = used }

-- what reading gives for a whole frame: an Update, a Change, or a frame of another kind
abbrev pub answer_of : FrameKind → Outline → Body → ℕ → Result (ReplyHead × List Pair) FrameFault
answer_of kinds.Update outline (Update values) used = Ok (head_of outline None used, values)
answer_of kinds.Change outline (Change program values) used = Ok (head_of outline (Some program) used, values)
answer_of kind outline body used = Err (Other (kind_number kind))

abbrev pub decoded_from : List ℕ → Read Frame → Result (ReplyHead × List Pair) FrameFault
decoded_from bytes (Ok (frame, rest)) =
    answer_of frame.outline.kind frame.outline frame.body (length bytes - length rest)
decoded_from bytes (Err stop) = Err (frame_fault bytes stop)

-- the head and the values of the Update or the Change at the front of the bytes, or why there is none
abbrev pub decoded_of : List ℕ → Result (ReplyHead × List Pair) FrameFault
decoded_of bytes = decoded_from bytes (frame_at bytes)

-- the bytes begin with a whole frame of another kind, which has this number
pub record IsOther (bytes : List ℕ) (number : ℕ) : Type 0 where
  pub frame : Frame
  pub begins : BeginsWithFrame bytes frame
  pub no_update : frame.outline.kind ≢ kinds.Update
  pub no_change : frame.outline.kind ≢ kinds.Change
  pub number_is : number ≡ kind_number frame.outline.kind

-- the fault is a byte
abbrev pub IsBad : Result ReplyHead FrameFault → Type 0
IsBad (Ok head) = ⊥
IsBad (Err (More needed)) = ⊥
IsBad (Err (Bad field place)) = Unit {0}
IsBad (Err (Other number)) = ⊥
