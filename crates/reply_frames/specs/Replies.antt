-- The frames that answer, Update and Change, and the bytes that begin with one.
use Rattle.std.specs.Prelude.{◌≡◌, ℕ, ◌<◌, ◌≤◌, ◌^◌, List, ◌++◌, length, Option, Some, None, IfSome}
use Rattle.std.specs.List.{AllByRecursion}
use Rattle.ccp_base.specs.FieldReg.{Pair}
use Rattle.ccp_base.specs.Limits.{most_pairs}
use Rattle.reply_frames.specs.declared.outline.Version.{Version}
use Rattle.reply_frames.specs.declared.outline.Version.TheVariants.{One}
use Rattle.reply_frames.specs.declared.decode.ReplyHead.{ReplyHead}
use Rattle.reply_frames.specs.Frames.{Update, Change}
use Rattle.reply_frames.specs.FrameBytes.{spelled}
use Rattle.reply_frames.specs.ValueBytes.{IsSendable}

-- the frame that writes these values on a flow
abbrev pub update_bytes : Version → ℕ → List Pair → List ℕ
update_bytes version flow values = spelled version flow (Update values)

-- the frame that starts a program on a flow with these values
abbrev pub change_bytes : Version → ℕ → ℕ → List Pair → List ℕ
change_bytes version flow program values = spelled version flow (Change program values)

-- the frame with these values: an Update without a program, else a Change
abbrev pub reply_bytes : Version → ℕ → Option ℕ → List Pair → List ℕ
reply_bytes version flow None values = update_bytes version flow values
reply_bytes version flow (Some program) values = change_bytes version flow program values

-- the head of the frame of version 1 with these values
abbrev pub reply_head : ℕ → Option ℕ → List Pair → ReplyHead
reply_head flow program values =
    record { flow = flow; program = program; version = One; used = length (reply_bytes One flow program values) }

-- these bytes begin with the frame of this head and these values
pub record IsReply (bytes : List ℕ) (head : ReplyHead) (values : List Pair) : Type 0 where
  pub rest : List ℕ
  pub parts : bytes ≡ reply_bytes head.version head.flow head.program values ++ rest
  pub used : head.used ≡ length (reply_bytes head.version head.flow head.program values)
  pub flow : head.flow < 2 ^ 32
  pub program : IfSome head.program (λ program. program < 2 ^ 32)
  pub few : length values ≤ most_pairs
  pub values_fit : AllByRecursion IsSendable values
