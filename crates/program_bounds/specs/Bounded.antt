-- What is promised of the bounds that were found.
use Rattle.std.specs.Prelude.{◌≡◌, ℕ, List, [], ◌∷◌, Option, Some, None, slice_index}
use Rattle.ccp_base.specs.declared.exchange.Report.{Report}
use Rattle.ccp_base.specs.RunningEpochs.{Reporter}
use Rattle.value_ranges.specs.Ranges.{IsIn}
use Rattle.portus_core.specs.declared.env.Env.{Env}
use Rattle.portus_core.specs.Programs.{Form}
use Rattle.portus_core.specs.Value.{Cause}
use Rattle.portus_core.specs.Epoch.{Event, track_at, by_source, after}
use Rattle.portus_core.specs.Reports.{reports, epoch_fault}
use Rattle.range_cases.specs.declared.case.Kept.{Kept}
use Rattle.range_cases.specs.Cases.{AreIn, IsKept}
use Rattle.range_cases.specs.Listing.{IsListed}
use Rattle.program_bounds.specs.declared.found.Bounds.{Bounds}
use Rattle.program_bounds.specs.declared.premises.Premises.{Premises}
use Rattle.program_bounds.specs.Premises.{Starts, Meets}

-- the fields, the window and the rate of a report are in these ranges
pub record AreShown (kept : Kept) (fields : List ℕ) (cwnd rate : ℕ) : Type 0 where
  pub fields_in : AreIn kept.fields (slice_index fields)
  pub cwnd_in : IsIn kept.cwnd cwnd
  pub rate_in : IsIn kept.rate rate

abbrev pub ShowsIn : Option Kept → List ℕ → ℕ → ℕ → Type 0
ShowsIn (Some kept) fields cwnd rate = AreShown kept fields cwnd rate
ShowsIn None fields cwnd rate = ⊥

-- a report is in the ranges at a report
abbrev pub Shows : Option Kept → Report → Type 0
Shows found report = ShowsIn found report.fields report.cwnd report.rate

abbrev pub Each : {X : Type 0} → (X → Type 0) → List X → Type 0
Each P [] = Unit {0}
Each P (x ∷ rest) = P x × Each P rest

-- for every start and every list of events that meet the premises: a fault at an acknowledgement is listed, from an
-- acknowledgement on that isn't later; each report is in the ranges at a report; and what is kept after the events is in
-- the ranges between acknowledgements
pub record IsBounded (form : Form) (given : Premises) (bounds : Bounds) : Type 0 where
  pub faults : (start : Env) (events : List Event) → Starts form given start → Meets given events
      → (at : ℕ) (cause : Cause) → epoch_fault (by_source form) events (track_at 0 start) ≡ Some (at, cause)
      → IsListed bounds.found.faults cause at
  pub reports : (start : Env) (events : List Event) → Starts form given start → Meets given events
      → (reporter : Reporter)
      → Each (Shows bounds.found.report) (reports (by_source form) reporter events (track_at 0 start))
  pub kept : (start : Env) (events : List Event) → Starts form given start → Meets given events
      → IsKept bounds.now (after (by_source form) events (track_at 0 start)).env
