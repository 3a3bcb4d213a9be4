-- Frames of every kind and of both versions: the head of 16 bytes, and the body that it speaks of.
use Rattle.std.specs.Prelude.{ℕ, ◌<◌, ◌-◌, ◌==◌, List, Ok, if◌then◌else◌}
use Rattle.std.specs.Int.{w16, w32, w64}
use Rattle.ccp_base.specs.declared.fields.FieldReg.{FieldReg}
use Rattle.ccp_base.specs.declared.fields.FieldReg.TheVariants.{Cwnd, Rate, Control}
use Rattle.ccp_base.specs.Acknowledgement.{flag_number}
use Rattle.ccp_base.specs.FieldReg.{Pair}
use Rattle.ccp_base.specs.Limits.{most_controls, most_operation, most_reason}
use Rattle.reply_frames.specs.declared.fault.BadKind.TheVariants as bad
use Rattle.reply_frames.specs.declared.outline.FrameKind.{FrameKind}
use Rattle.reply_frames.specs.declared.outline.FrameKind.TheVariants as kinds
use Rattle.reply_frames.specs.declared.outline.Version.{Version}
use Rattle.reply_frames.specs.declared.outline.Version.TheVariants.{One, Two}
use Rattle.reply_frames.specs.declared.outline.Counts.{Counts}
use Rattle.reply_frames.specs.declared.outline.Outline.{Outline}
pub use Rattle.reply_frames.specs.declared.outline.Register.{Register}
pub use Rattle.reply_frames.specs.declared.outline.Instruction.{Instruction}
use Rattle.reply_frames.specs.Parts.{Read, ◌>>=◌, byte_at, number_at, limited_at, exactly_at, repeated_at}
use Rattle.reply_frames.specs.Kinds.{kind_numbered, version_of, most_n1, most_n2, most_n3, most_n4, size_of}

-- the counts of a head
unfoldable pub counts_at : FrameKind → Version → List ℕ → Read Counts
counts_at kind version bytes = do
  n1 ← byte_at bad.Count 0 (most_n1 kind version) bytes
  n2 ← byte_at bad.Count 0 (most_n2 kind) n1.1
  n3 ← limited_at bad.Count 2 (most_n3 kind) n2.1
  n4 ← limited_at bad.Count 2 (most_n4 kind) n3.1
  Ok (record { n1 = n1.0; n2 = n2.0; n3 = n3.0; n4 = n4.0 }, n4.1)

-- a head: kind, version, counts, flow, and the length of the whole frame
unfoldable pub outline_at : List ℕ → Read Outline
outline_at bytes = do
  kind ← byte_at bad.Kind 1 8 bytes
  version ← byte_at bad.Version 1 2 kind.1
  counts ← counts_at (kind_numbered kind.0) (version_of version.0) version.1
  flow ← number_at w32 counts.1
  size ← exactly_at bad.Length 4 (size_of (kind_numbered kind.0) (version_of version.0) counts.0) flow.1
  Ok (record { kind = kind_numbered kind.0; version = version_of version.0; counts = counts.0; flow = flow.0 }, size.1)

-- ---- the parts of bodies

-- a register that is declared: whether it is volatile, and the value that it starts with
pub record Start : Type 0 where
  pub volatile : ℕ
  pub value : ℕ

unfoldable pub start_at : List ℕ → Read Start
start_at bytes = do
  volatile ← byte_at bad.Flag 0 1 bytes
  value ← number_at w64 volatile.1
  Ok (record { volatile = volatile.0; value = value.0 }, value.1)

-- an event: how many instructions its condition and its body have
pub record EventLengths : Type 0 where
  pub condition : ℕ
  pub block : ℕ

unfoldable pub event_at : List ℕ → Read EventLengths
event_at bytes = do
  condition ← number_at w16 bytes
  block ← number_at w16 condition.1
  Ok (record { condition = condition.0; block = block.0 }, block.1)

-- only the number of an immediate is above 255
abbrev pub IsSmall : Register → Type 0
IsSmall register = 0 < register.class → register.number < 256

-- an immediate has any value, an implicit register a number below 6, any other one a number below 256
unfoldable pub register_number_at : ℕ → List ℕ → Read ℕ
register_number_at class bytes =
    if class == 0 then number_at w64 bytes else
    if class == 4 then limited_at bad.Index 8 5 bytes else limited_at bad.Index 8 255 bytes

unfoldable pub register_at : List ℕ → Read Register
register_at bytes = do
  class ← byte_at bad.Class 0 6 bytes
  number ← register_number_at class.0 class.1
  Ok (record { class = class.0; number = number.0 }, number.1)

unfoldable pub instruction_at : List ℕ → Read Instruction
instruction_at bytes = do
  op ← byte_at bad.Op 0 most_operation bytes
  to ← register_at op.1
  left ← register_at to.1
  right ← register_at left.1
  Ok (record { op = op.0; to = to.0; left = left.0; right = right.0 }, right.1)

-- what a value is written to: class 3 is a control by its number below 64, (4, 4) is Cwnd and (4, 5) Rate
unfoldable pub target_at : List ℕ → Read FieldReg
target_at bytes = do
  class ← byte_at bad.Class 3 4 bytes
  if class.0 == 3
      then (do
        number ← byte_at bad.Index 0 (most_controls - 1) class.1
        Ok (Control number.0, number.1))
      else (do
        number ← byte_at bad.Index 4 5 class.1
        Ok ((if number.0 == 4 then Cwnd else Rate), number.1))

unfoldable pub value_at : List ℕ → Read Pair
value_at bytes = do
  target ← target_at bytes
  value ← number_at w64 target.1
  Ok ((target.0, value.0), value.1)

-- ---- bodies

pub data Body : Type 0 where
  Create : (cwnd mss : ℕ) → Body
  Measure : (program epoch first last now cwnd rate : ℕ) (fields : List ℕ) → Body
  Install : (program : ℕ) (reports controls : List Start) (events : List EventLengths) (instructions : List Instruction)
      → Body
  Update : (values : List Pair) → Body
  Change : (program : ℕ) (values : List Pair) → Body
  Fault : (program epoch place kind index now cwnd : ℕ) → Body
  Ack : (primitives : List ℕ) (was_timeout : ℕ) → Body
  Refused : (reason index : ℕ) → Body

unfoldable pub create_at : List ℕ → Read Body
create_at bytes = do
  cwnd ← number_at w64 bytes
  mss ← number_at w32 cwnd.1
  Ok (Create cwnd.0 mss.0, mss.1)

-- a count of acknowledgements, which is wider in version 2
abbrev pub count_at : Version → List ℕ → Read ℕ
count_at One bytes = number_at w32 bytes
count_at Two bytes = number_at w64 bytes

unfoldable pub measure_at : Version → ℕ → List ℕ → Read Body
measure_at version count bytes = do
  program ← number_at w32 bytes
  epoch ← number_at w32 program.1
  first ← count_at version epoch.1
  last ← count_at version first.1
  now ← number_at w64 last.1
  cwnd ← number_at w64 now.1
  rate ← number_at w64 cwnd.1
  fields ← repeated_at (number_at w64) count rate.1
  Ok (Measure program.0 epoch.0 first.0 last.0 now.0 cwnd.0 rate.0 fields.0, fields.1)

unfoldable pub install_at : Counts → List ℕ → Read Body
install_at counts bytes = do
  program ← number_at w32 bytes
  reports ← repeated_at start_at counts.n1 program.1
  controls ← repeated_at start_at counts.n2 reports.1
  events ← repeated_at event_at counts.n3 controls.1
  instructions ← repeated_at instruction_at counts.n4 events.1
  Ok (Install program.0 reports.0 controls.0 events.0 instructions.0, instructions.1)

unfoldable pub values_at : ℕ → List ℕ → Read (List Pair)
values_at count bytes = repeated_at value_at count bytes

unfoldable pub update_at : ℕ → List ℕ → Read Body
update_at count bytes = do
  values ← values_at count bytes
  Ok (Update values.0, values.1)

unfoldable pub change_at : ℕ → List ℕ → Read Body
change_at count bytes = do
  program ← number_at w32 bytes
  values ← values_at count program.1
  Ok (Change program.0 values.0, values.1)

unfoldable pub fault_body_at : Version → List ℕ → Read Body
fault_body_at version bytes = do
  program ← number_at w32 bytes
  epoch ← number_at w32 program.1
  place ← count_at version epoch.1
  kind ← byte_at bad.FaultKind 0 2 place.1
  index ← number_at w16 kind.1
  now ← number_at w64 index.1
  cwnd ← number_at w64 now.1
  Ok (Fault program.0 epoch.0 place.0 kind.0 index.0 now.0 cwnd.0, cwnd.1)

-- the plain numbers, and whether there was a timeout
unfoldable pub ack_body_at : List ℕ → Read Body
ack_body_at bytes = do
  primitives ← repeated_at (number_at w64) flag_number bytes
  was_timeout ← limited_at bad.Flag 8 1 primitives.1
  Ok (Ack primitives.0 was_timeout.0, was_timeout.1)

unfoldable pub refused_at : List ℕ → Read Body
refused_at bytes = do
  reason ← byte_at bad.Kind 1 most_reason bytes
  index ← number_at w32 reason.1
  Ok (Refused reason.0 index.0, index.1)

abbrev pub body_at : FrameKind → Version → Counts → List ℕ → Read Body
body_at kinds.Create version counts bytes = create_at bytes
body_at kinds.Measure version counts bytes = measure_at version counts.n1 bytes
body_at kinds.Install version counts bytes = install_at counts bytes
body_at kinds.Update version counts bytes = update_at counts.n1 bytes
body_at kinds.Change version counts bytes = change_at counts.n1 bytes
body_at kinds.Fault version counts bytes = fault_body_at version bytes
body_at kinds.Ack version counts bytes = ack_body_at bytes
body_at kinds.Refused version counts bytes = refused_at bytes

-- a frame: its head and its body
pub record Frame : Type 0 where
  pub outline : Outline
  pub body : Body

unfoldable pub frame_at : List ℕ → Read Frame
frame_at bytes = do
  outline ← outline_at bytes
  body ← body_at outline.0.kind outline.0.version outline.0.counts outline.1
  Ok (record { outline = outline.0; body = body.0 }, body.1)
