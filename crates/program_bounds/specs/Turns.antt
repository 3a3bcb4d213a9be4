-- What one acknowledgement on ranges stands for, and what the rest of an epoch leads to.
use Rattle.std.specs.Prelude.{◌≡◌, ℕ, ◌+◌, ◌<◌, ◌≤◌, slice_index_or, Bool, IsTrue, Option, Some, List}
use Rattle.ccp_base.specs.declared.ack.Ack.{Ack}
use Rattle.ccp_base.specs.RunningEpochs.{Reporter}
use Rattle.ccp_base.specs.FieldReg.{Pair}
use Rattle.ccp_base.specs.declared.fields.FieldReg.{FieldReg}
use Rattle.ccp_base.specs.declared.fields.FieldReg.TheVariants as reg
use Rattle.value_ranges.specs.declared.range.Range.{Range}
use Rattle.value_ranges.specs.Ranges.{IsIn}
use Rattle.program_bounds.specs.declared.premises.Item.{Item}
use Rattle.portus_core.specs.declared.env.Env.{Env}
use Rattle.portus_core.specs.declared.env.Mean.{Mean}
use Rattle.portus_core.specs.declared.env.Mean.TheVariants.{Quiet, Reported, Held, Fault}
use Rattle.portus_core.specs.Programs.{Form}
use Rattle.portus_core.specs.Value.{Cause}
use Rattle.portus_core.specs.OneAcknowledgement.{IsEnvOf, one_of}
use Rattle.portus_core.specs.Epoch.{Event, Track, by_source, after, with_value}
use Rattle.portus_core.specs.Reports.{reports, epoch_fault}
use Rattle.range_cases.specs.declared.case.Kept.{Kept}
use Rattle.range_cases.specs.Cases.{IsKept}
use Rattle.range_cases.specs.Listing.{IsListed, KeepsListed}
use Rattle.program_bounds.specs.declared.found.Found.{Found}
use Rattle.program_bounds.specs.declared.premises.Premises.{Premises}
use Rattle.program_bounds.specs.Premises.{MeetsAck, IsAllowed, Follows, acks_in}
use Rattle.program_bounds.specs.Bounded.{ShowsIn, Shows, Each}

-- the outcome of an acknowledgement: a fault is listed, a report is in the ranges at a report
abbrev pub IsMet : Found → ℕ → Mean × Env → Type 0
IsMet found turn (Fault kind place, env) = IsListed found.faults (kind, place) turn
IsMet found turn (Reported fields, env) = ShowsIn found.report fields env.cwnd env.rate
IsMet found turn (Quiet, env) = Unit {0}
IsMet found turn (Held, env) = Unit {0}

-- the outcome was found, and the env after it is in the next ranges
pub record Turned (found : Found) (turn : ℕ) (next : Kept) (outcome : Mean × Env) : Type 0 where
  pub met : IsMet found turn outcome
  pub kept : IsKept next outcome.1

-- an acknowledgement takes an env in some ranges into the next ranges
abbrev pub IsTurn : Form → Premises → Found → ℕ → Kept → Kept → Type 0
IsTurn form given found turn state next =
    (env : Env) (ack : Ack) (room : Bool) → IsEnvOf form env → IsKept state env → MeetsAck given ack
    → (IsTrue given.has_room → IsTrue room) → Turned found turn next (one_of form env ack room)

-- all that is in some ranges is in others
abbrev pub IsWithin : Kept → Kept → Type 0
IsWithin small large = (env : Env) → IsKept small env → IsKept large env

-- a value that an update writes is in the ranges
abbrev pub IsWritten : Kept → FieldReg → ℕ → Type 0
IsWritten state reg.Cwnd value = IsIn state.cwnd value
IsWritten state reg.Rate value = IsIn state.rate value
IsWritten state (reg.Control i) value = i < 64 → (past : Range) → IsIn (slice_index_or state.controls i past) value

-- each value that an update may write is in the ranges
abbrev pub HasUpdates : List Item → Kept → Type 0
HasUpdates items state = (pair : Pair) → IsAllowed items pair → IsWritten state pair.0 pair.1

-- an update keeps an env in the ranges
abbrev pub IsUpdated : Form → Premises → Kept → Type 0
IsUpdated form given state =
    (env : Env) (pair : Pair) → IsEnvOf form env → IsKept state env → IsAllowed given.updates pair
    → IsKept state (with_value pair.0 pair.1 env)

-- the outcome that was answered is in the ranges at a report, if it is one, and the env after it in the next ranges
abbrev pub IsShown : Option Kept → Mean × Env → Type 0
IsShown report (Reported fields, env) = ShowsIn report fields env.cwnd env.rate
IsShown report (Quiet, env) = Unit {0}
IsShown report (Held, env) = Unit {0}
IsShown report (Fault kind place, env) = Unit {0}

pub record IsSettled (report : Option Kept) (next : Kept) (outcome : Mean × Env) : Type 0 where
  pub shown : IsShown report outcome
  pub kept : IsKept next outcome.1

-- what was shown stays shown
abbrev pub KeepsReport : Option Kept → Option Kept → Type 0
KeepsReport old new = (fields : List ℕ) (cwnd rate : ℕ) → ShowsIn old fields cwnd rate → ShowsIn new fields cwnd rate

-- what was found stays found
pub record KeepsFound (old new : Found) : Type 0 where
  pub faults : KeepsListed old.faults new.faults
  pub report : KeepsReport old.report new.report

-- what events lead to was found
pub record IsConcluded (form : Form) (found : Found) (now : Kept) (events : List Event) (track : Track) : Type 0 where
  pub faults : (at : ℕ) (cause : Cause) → epoch_fault (by_source form) events track ≡ Some (at, cause)
      → IsListed found.faults cause at
  pub reports : (reporter : Reporter) → Each (Shows found.report) (reports (by_source form) reporter events track)
  pub kept : IsKept now (after (by_source form) events track).env

-- from some ranges on, after this many acknowledgements, what the rest of an epoch leads to was found
abbrev pub IsGoodFrom : Form → Premises → Found → Kept → ℕ → Kept → Type 0
IsGoodFrom form given found now turn state =
    (events : List Event) (track : Track) (since : ℕ) → turn + acks_in events ≤ given.acks → Follows given since events
    → IsEnvOf form track.env → IsKept state track.env → turn ≤ track.count
    → IsConcluded form found now events track

-- each range has the values that it had
pub record Widens (old new : Kept) : Type 0 where
  pub fields : (i : ℕ) (past : Range) (n : ℕ) → IsIn (slice_index_or old.fields i past) n
      → IsIn (slice_index_or new.fields i past) n
  pub controls : (i : ℕ) (past : Range) (n : ℕ) → IsIn (slice_index_or old.controls i past) n
      → IsIn (slice_index_or new.controls i past) n
  pub cwnd : (n : ℕ) → IsIn old.cwnd n → IsIn new.cwnd n
  pub rate : (n : ℕ) → IsIn old.rate n → IsIn new.rate n
