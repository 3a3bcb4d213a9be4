-- Which states of a run a case stands for.
use Rattle.std.specs.Prelude.{◌≡◌, ℕ, ◌-◌, ◌<◌, ◌⊎◌, true, false, List, [], ◌∷◌, Option, Some, None, Result, Ok, Err, length, slice_index, slice_index_or, unwrap_or}
use Rattle.ccp_base.specs.declared.ack.Ack.{Ack}
use Rattle.ccp_base.specs.Acknowledgement.{prim}
use Rattle.ccp_base.specs.declared.place.Place.{Place}
use Rattle.ccp_base.specs.declared.operation.Op2.{Op2}
use Rattle.ccp_base.specs.Chaining.{then_do}
use Rattle.ccp_base.specs.Operations.{apply}
use Rattle.ccp_base.specs.Truth.{is_true}
use Rattle.value_ranges.specs.declared.range.Range.{Range}
use Rattle.value_ranges.specs.Ranges.{IsIn, HasValue}
use Rattle.portus_core.specs.declared.env.Env.{Env}
use Rattle.portus_core.specs.Value.{Cause, at_place}
use Rattle.portus_core.specs.Command.{Going}
use Rattle.range_cases.specs.declared.case.Kept.{Kept}
use Rattle.range_cases.specs.declared.case.Sizes.{Sizes}
use Rattle.range_cases.specs.declared.case.Case.{Case}
use Rattle.range_cases.specs.declared.listed.Listed.{Listed}
use Rattle.range_cases.specs.Listing.{IsListed}

-- each value is in the range with its number; past the ranges each value is 0
pub record AreIn (ranges : List Range) (value : ℕ → ℕ) : Type 0 where
  pub each : (i : ℕ) (past : Range) → IsIn past 0 → IsIn (slice_index_or ranges i past) (value i)

-- what a program keeps is in these ranges
pub record IsKept (kept : Kept) (env : Env) : Type 0 where
  pub fields : AreIn kept.fields (slice_index env.fields)
  pub controls : AreIn kept.controls (slice_index env.controls)
  pub cwnd : IsIn kept.cwnd env.cwnd
  pub rate : IsIn kept.rate env.rate

-- an env has as many fields and control variables
pub record HasSizes (sizes : Sizes) (env : Env) : Type 0 where
  pub fields : length env.fields ≡ sizes.fields
  pub controls : length env.controls ≡ sizes.controls

-- the state of a run is in the case
pub record IsCase (case : Case) (ack : Ack) (going : Going) : Type 0 where
  pub kept : IsKept case.kept going.env
  pub sizes : HasSizes case.sizes going.env
  pub locals : AreIn case.locals (λ i. unwrap_or (going.locals i) 0)
  pub primitives : AreIn case.primitives (λ i. prim i ack)
  pub micros : IsIn case.micros (ack.now - going.env.zero)
  pub asked : case.asked ≡ going.asked
  pub falls : case.falls ≡ going.falls

-- two cases have asked for the same, of as many fields and control variables
pub record IsAlike (case other : Case) : Type 0 where
  pub asked : case.asked ≡ other.asked
  pub falls : case.falls ≡ other.falls
  pub fields : case.sizes.fields ≡ other.sizes.fields
  pub controls : case.sizes.controls ≡ other.sizes.controls

-- the case at a place has asked for the same
pub record IsAlikeAt (cases : List Case) (i : ℕ) (case : Case) : Type 0 where
  pub within : i < length cases
  pub alike : IsAlike (slice_index_or cases i case) case

-- there is a case, and the state is in it
abbrev pub HasCase : Option Case → Ack → Going → Type 0
HasCase (Some case) ack going = IsCase case ack going
HasCase None ack going = ⊥

-- the state is in one of the cases
abbrev pub IsAmong : List Case → Ack → Going → Type 0
IsAmong [] ack going = ⊥
IsAmong (case ∷ rest) ack going = IsCase case ack going ⊎ IsAmong rest ack going

-- what was in one of the cases is in one of the new ones
abbrev pub KeepsCases : List Case → List Case → Type 0
KeepsCases old new = (ack : Ack) (going : Going) → IsAmong old ack going → IsAmong new ack going

-- an operation on the values of its parts, or the first fault
abbrev pub pair_of : Op2 → Place → Result ℕ Cause → Result ℕ Cause → Result ℕ Cause
pair_of operation place left right =
    then_do left (λ a. then_do right (λ b. at_place place (apply operation a b)))

-- a value, if there is one, is in the range
abbrev pub Gives : Option Range → Result ℕ Cause → Type 0
Gives found (Ok value) = HasValue found value
Gives found (Err cause) = Unit {0}

-- a value is in the range, a fault is listed
abbrev pub Meets : List Listed → ℕ → Option Range → Result ℕ Cause → Type 0
Meets faults turn found (Ok value) = HasValue found value
Meets faults turn found (Err cause) = IsListed faults cause turn

-- a state that a run leads to is in one of the cases, a fault is listed
abbrev pub LeadsTo : List Listed → ℕ → List Case → Ack → Result Going Cause → Type 0
LeadsTo faults turn cases ack (Ok going) = IsAmong cases ack going
LeadsTo faults turn cases ack (Err cause) = IsListed faults cause turn

-- where a block's condition is true, the state is in one of the cases that run its body, else in one of those that go
-- on; a fault is listed
abbrev pub Enters : List Listed → ℕ → List Case → List Case → Ack → Going → Result ℕ Cause → Type 0
Enters faults turn held next ack going (Ok value) =
    (is_true value ≡ true → IsAmong held ack going) × (is_true value ≡ false → IsAmong next ack going)
Enters faults turn held next ack going (Err cause) = IsListed faults cause turn

-- a state after a body goes on if the body falls through, else it is an end
pub record Parts (next ends : List Case) (ack : Ack) (going : Going) : Type 0 where
  pub goes_on : going.falls ≡ true → IsAmong next ack going
  pub is_end : going.falls ≡ false → IsAmong ends ack going
