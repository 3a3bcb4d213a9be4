-- An epoch: its start, its events and their outcomes.
use Rattle.std.specs.Prelude.{ℕ, ◌+◌, Bool, true, false, Option, Some, None, Result, Ok, Err, List, [], ◌∷◌, length, map, slice_set}
use Rattle.ccp_base.specs.declared.ack.Ack.{Ack}
use Rattle.ccp_base.specs.declared.fields.FieldReg.{FieldReg}
use Rattle.ccp_base.specs.declared.fields.FieldReg.TheVariants as reg
use Rattle.ccp_base.specs.FieldReg.{Pair, first_bad_pair}
use Rattle.portus_core.specs.declared.env.Env.{Env}
use Rattle.portus_core.specs.declared.env.Mean.{Mean}
use Rattle.portus_core.specs.declared.env.Mean.TheVariants.{Quiet, Reported, Held, Fault}
use Rattle.portus_core.specs.declared.env.StartFault.{StartFault}
use Rattle.portus_core.specs.declared.env.StartFault.TheVariants.{BadRegister}
use Rattle.portus_core.specs.declared.program.Decl.{Decl}
use Rattle.portus_core.specs.Programs.{Form}
use Rattle.portus_core.specs.Value.{Cause}
use Rattle.portus_core.specs.OneAcknowledgement.{one_of}

-- one value is written
abbrev pub with_value : FieldReg → ℕ → Env → Env
with_value reg.Cwnd value env = record env { cwnd = value }
with_value reg.Rate value env = record env { rate = value }
with_value (reg.Control i) value env = record env { controls = slice_set env.controls i value }

-- values are written in order, so of two for one name the last one counts
abbrev pub with_values : List Pair → Env → Env
with_values [] env = env
with_values (pair ∷ rest) env = with_values rest (with_value pair.0 pair.1 env)

-- every name with its declared value; `now` is the time of the flow's last acknowledgement, 0 before the first
abbrev pub declared_env : Form → ℕ → ℕ → ℕ → Env
declared_env form cwnd rate now = record {
  fields = map (λ (decl : Decl). decl.start) form.fields;
  controls = map (λ (decl : Decl). decl.start) form.controls;
  cwnd = cwnd;
  rate = rate;
  zero = now;
}

abbrev pub start_from : Option ℕ → List Pair → Env → Result Env StartFault
start_from (Some i) values env = Err (BadRegister i)
start_from None values env = Ok (with_values values env)

-- the start of an epoch with these values
abbrev pub epoch_start : Form → List Pair → ℕ → ℕ → ℕ → Result Env StartFault
epoch_start form values cwnd rate now =
    start_from (first_bad_pair (length form.controls) values) values (declared_env form cwnd rate now)

-- what happens in an epoch: an acknowledgement, with whether there is room for a report, or an update
pub data Event : Type 0 where
  acknowledged : Ack → Bool → Event
  updated : List Pair → Event

-- the outcome of an acknowledgement in its epoch; `F` is what it says of a fault
pub data Outcome (F : Type 0) : Type 0 where
  quiet : Outcome F
  reported : List ℕ → Outcome F
  held : Outcome F
  failed : F → Outcome F
  stopped : Outcome F

-- a reading of acknowledgements: the outcome of each, and the env after it
abbrev pub Reading : Type 0 → Type 0
Reading F = Env → Ack → Bool → Outcome F × Env

abbrev pub outcome_of : Mean → Outcome Cause
outcome_of Quiet = quiet
outcome_of (Reported fields) = reported fields
outcome_of Held = held
outcome_of (Fault kind place) = failed (kind, place)

-- the reading of a program by its source
abbrev pub by_source : Form → Reading Cause
by_source form env ack room = (outcome_of (one_of form env ack room).0, (one_of form env ack room).1)

-- the state of an epoch: its env, whether a fault has stopped it, the acknowledgement of the flow at which the
-- unreported span begins, and how many acknowledgements of the flow there were
pub record Track : Type 0 where
  pub env : Env
  pub is_stopped : Bool
  pub first : ℕ
  pub count : ℕ

-- the start of an epoch, after this many acknowledgements of the flow
abbrev pub track_at : ℕ → Env → Track
track_at count env = record { env = env; is_stopped = false; first = count; count = count }

-- acknowledgements of a stopped epoch aren't run
abbrev pub heard : {F : Type 0} → Reading F → Bool → Env → Ack → Bool → Outcome F × Env
heard reading true env ack room = (stopped, env)
heard reading false env ack room = reading env ack room

abbrev pub stops : {F : Type 0} → Outcome F → Bool
stops quiet = false
stops (reported fields) = false
stops held = false
stops (failed fault) = true
stops stopped = true

-- the next span begins after a report
abbrev pub next_first : {F : Type 0} → Outcome F → Track → ℕ
next_first (reported fields) track = track.count + 1
next_first quiet track = track.first
next_first held track = track.first
next_first (failed fault) track = track.first
next_first stopped track = track.first

abbrev pub after_outcome : {F : Type 0} → Outcome F × Env → Track → Track
after_outcome met track =
    record { env = met.1; is_stopped = stops met.0; first = next_first met.0 track; count = track.count + 1 }

-- an update writes, and doesn't start a stopped epoch
abbrev pub after_event : {F : Type 0} → Reading F → Event → Track → Track
after_event reading (acknowledged ack room) track =
    after_outcome (heard reading track.is_stopped track.env ack room) track
after_event reading (updated values) track = record track { env = with_values values track.env }

-- an epoch after its events
abbrev pub after : {F : Type 0} → Reading F → List Event → Track → Track
after reading [] track = track
after reading (event ∷ rest) track = after reading rest (after_event reading event track)
