-- What the machine makes of an acknowledgement is what the source makes of it, if an instruction stands for its place.
use Rattle.std.specs.Prelude.{◌≡◌, ℕ, Bool, true, false, Option, Some, None, option_map, List, [], ◌∷◌, map, slice_get, refl}
use Rattle.std.proofs.Common.{ap, ◌∙◌, subst}
use Rattle.std.proofs.lemmas.Option.{none-some}
use Rattle.ccp_base.specs.declared.ack.Ack.{Ack}
use Rattle.ccp_base.specs.declared.arithmetic.FaultKind.{FaultKind}
use Rattle.ccp_base.specs.declared.exchange.Report.{Report}
use Rattle.ccp_base.specs.declared.place.Place.{Place}
use Rattle.ccp_base.specs.RunningEpochs.{Reporter}
use Rattle.portus_core.specs.declared.env.Env.{Env}
use Rattle.portus_core.specs.declared.env.Mean.{Mean}
use Rattle.portus_core.specs.declared.env.Mean.TheVariants.{Fault}
use Rattle.portus_core.specs.Programs.{Form}
use Rattle.portus_core.specs.Value.{Cause}
use Rattle.portus_core.specs.OneAcknowledgement.{IsEnvOf}
use Rattle.portus_core.specs.Epoch as epoch
use Rattle.portus_core.specs.Epoch.{Outcome, quiet, reported, held, failed, stopped, Track, by_source, heard, stops, next_first}
use Rattle.portus_core.specs.Reports.{reports_met}
use Rattle.reg_code.specs.declared.code.Code.{Code}
use Rattle.reg_code.specs.CodeStep as steps
use Rattle.reg_compiler.specs.declared.built.Built.{Built}
use Rattle.reg_compiler.specs.Simulation.{Simulates, seen}
use Rattle.fold_machine.specs.declared.acked.Acked.{Acked}
use Rattle.fold_machine.specs.declared.acked.Acked.TheVariants as acked
use Rattle.flow_core.specs.Readings.{env_of, outcome_of, by_code}
use Rattle.flow_core.specs.States.{outcome_by}
use Rattle.flow_core.specs.World.{failures_met, notice_with}
use Rattle.open_flow.specs.declared.entry.Entry.{Entry}
use Rattle.open_flow.specs.Entries.{built_at, entry_place}
use Rattle.open_flow.specs.OpenBooks.{Seen, seen_of, seen_as}
use Rattle.open_flow.specs.OpenCells.{HasOutcome}

-- an outcome of the code with the place of a fault; None if there is none
abbrev pub placed : List Place → Outcome (FaultKind × ℕ) → Option (Outcome Cause)
placed places quiet = Some quiet
placed places (reported fields) = Some (reported fields)
placed places held = Some held
placed places (failed fault) = option_map (λ place. failed (fault.0, place)) (slice_get places fault.1)
placed places stopped = Some stopped

-- ---- one acknowledgement

fault-placed : (kind : FaultKind) (place : Option Place) (mean : Mean)
    → option_map (λ place. Fault kind place) place ≡ Some mean
    → option_map (λ place. failed (kind, place)) place ≡ Some (epoch.outcome_of mean)
fault-placed kind (Some place) mean same = ap (option_map epoch.outcome_of) same
fault-placed kind None mean same = absurd (none-some mean same)

mean-placed : (places : List Place) (outcome : steps.CodeOutcome) (mean : Mean) → seen places outcome ≡ Some mean
    → placed places (outcome_of outcome) ≡ Some (epoch.outcome_of mean)
mean-placed places steps.quiet mean same = ap (option_map epoch.outcome_of) same
mean-placed places (steps.reported fields) mean same = ap (option_map epoch.outcome_of) same
mean-placed places steps.held mean same = ap (option_map epoch.outcome_of) same
mean-placed places (steps.faulted kind index) mean same = fault-placed kind (slice_get places index) mean same
mean-placed places steps.lost mean same = absurd (none-some mean same)

module _ (form : Form) (code : Code) (places : List Place) (simulates : Simulates form code places) where
  pub heard-placed : (is_stopped : Bool) (env : Env) (ack : Ack) → IsEnvOf form env
      → placed places (heard (by_code code) is_stopped env ack true).0 ≡ Some (heard (by_source form) is_stopped env ack true).0
  heard-placed true env ack shape = refl
  heard-placed false env ack shape = mean-placed places _ _ (simulates.3 env ack true shape).0

  pub heard-env : (is_stopped : Bool) (env : Env) (ack : Ack) → IsEnvOf form env
      → (heard (by_code code) is_stopped env ack true).1 ≡ (heard (by_source form) is_stopped env ack true).1
  heard-env true env ack shape = refl
  heard-env false env ack shape = ap env_of (simulates.3 env ack true shape).1

-- ---- what it changes

-- a function of the outcome, and of none
abbrev by_some : {A B : Type 0} → B → (A → B) → Option A → B
by_some none some None = none
by_some none some (Some a) = some a

module _ (places : List Place) where
  stops-fault : (kind : FaultKind) (place : Option Place) (out : Outcome Cause)
      → option_map (λ place. failed (kind, place)) place ≡ Some out → true ≡ stops out
  stops-fault kind None out same = absurd (none-some out same)
  stops-fault kind (Some place) out same = ap (by_some true stops) same

  pub stops-placed : (outcome : Outcome (FaultKind × ℕ)) (out : Outcome Cause) → placed places outcome ≡ Some out → stops outcome ≡ stops out
  stops-placed quiet out same = ap (by_some true stops) same
  stops-placed (reported fields) out same = ap (by_some true stops) same
  stops-placed held out same = ap (by_some true stops) same
  stops-placed (failed fault) out same = stops-fault fault.0 (slice_get places fault.1) out same
  stops-placed stopped out same = ap (by_some true stops) same

  first-fault : (track : Track) (kind : FaultKind) (place : Option Place) (out : Outcome Cause)
      → option_map (λ place. failed (kind, place)) place ≡ Some out → track.first ≡ next_first out track
  first-fault track kind None out same = absurd (none-some out same)
  first-fault track kind (Some place) out same = ap (by_some 0 (λ o. next_first o track)) same

  pub first-placed : (track : Track) (outcome : Outcome (FaultKind × ℕ)) (out : Outcome Cause) → placed places outcome ≡ Some out
      → next_first outcome track ≡ next_first out track
  first-placed track quiet out same = ap (by_some 0 (λ o. next_first o track)) same
  first-placed track (reported fields) out same = ap (by_some 0 (λ o. next_first o track)) same
  first-placed track held out same = ap (by_some 0 (λ o. next_first o track)) same
  first-placed track (failed fault) out same = first-fault track fault.0 (slice_get places fault.1) out same
  first-placed track stopped out same = ap (by_some 0 (λ o. next_first o track)) same

  module _ (whose : Reporter) (track : Track) (ack : Ack) (env : Env) where
    abbrev made : Outcome Cause → List Report
    made out = reports_met whose track ack out env

    reports-fault : (kind : FaultKind) (place : Option Place) (out : Outcome Cause)
        → option_map (λ place. failed (kind, place)) place ≡ Some out → [] ≡ made out
    reports-fault kind None out same = absurd (none-some out same)
    reports-fault kind (Some place) out same = ap (by_some [] made) same

    pub reports-placed : (outcome : Outcome (FaultKind × ℕ)) (out : Outcome Cause) → placed places outcome ≡ Some out
        → reports_met whose track ack outcome env ≡ reports_met whose track ack out env
    reports-placed quiet out same = ap (by_some [] made) same
    reports-placed (reported fields) out same = ap (by_some [] made) same
    reports-placed held out same = ap (by_some [] made) same
    reports-placed (failed fault) out same = reports-fault fault.0 (slice_get places fault.1) out same
    reports-placed stopped out same = ap (by_some [] made) same

-- ---- its fault

module _ (entries : List Entry) (flow step number at : ℕ) (ack : Ack) (env : Env) where
  abbrev told : Outcome Cause → List Seen
  told out = map (seen_as flow) (failures_met step number at ack (out, env))

  -- the code's fault, with this place of its instruction
  abbrev noted : FaultKind × ℕ → Option Place → List Seen
  noted fault place = (flow, option_map (λ (p : Place). record { program = step; epoch = number; at = at; kind = fault.0; site = p; now = ack.now; cwnd = env.cwnd }) place) ∷ []

  failures-fault : (fault : FaultKind × ℕ) (place : Option Place) (out : Outcome Cause)
      → option_map (λ place. failed (fault.0, place)) place ≡ Some out → noted fault place ≡ told out
  failures-fault fault None out same = absurd (none-some out same)
  failures-fault fault (Some place) out same = ap (by_some [] told) same

  pub failures-placed : (built : Built) → built_at entries step ≡ Some built
      → (outcome : Outcome (FaultKind × ℕ)) (out : Outcome Cause) → placed built.places outcome ≡ Some out
      → map (seen_of entries) (map (notice_with flow (λ (site : ℕ). site)) (failures_met step number at ack (outcome, env))) ≡ map (seen_as flow) (failures_met step number at ack (out, env))
  failures-placed built is quiet out same = ap (by_some [] told) same
  failures-placed built is (reported fields) out same = ap (by_some [] told) same
  failures-placed built is held out same = ap (by_some [] told) same
  failures-placed built is (failed fault) out same =
      ap (λ (b : Option Built). noted fault (entry_place b fault.1)) is
      ∙ failures-fault fault (slice_get built.places fault.1) out same
  failures-placed built is stopped out same = ap (by_some [] told) same

-- ---- the answer

abbrev tells_by : Built → Acked → Option (Outcome Cause) → Type 0
tells_by built answer None = Unit {0}
tells_by built answer (Some out) = HasOutcome (Some built) answer out

tells-fault : (built : Built) (kind : FaultKind) (index : ℕ) (place : Option Place) (out : Outcome Cause)
    → slice_get built.places index ≡ place → option_map (λ place. failed (kind, place)) place ≡ Some out
    → HasOutcome (Some built) (acked.Faulted kind index) out
tells-fault built kind index None out is same = absurd (none-some out same)
tells-fault built kind index (Some place) out is same =
    subst (tells_by built (acked.Faulted kind index)) same
    (ap (option_map (λ place. failed (kind, place))) is)

pub tells-placed : (built : Built) (answer : Acked) (report : List ℕ) (out : Outcome Cause) → placed built.places (outcome_by answer report) ≡ Some out
    → HasOutcome (Some built) answer out
tells-placed built acked.Quiet report out same = subst (tells_by built acked.Quiet) same refl
tells-placed built acked.Reported report out same = subst (tells_by built acked.Reported) same refl
tells-placed built acked.Held report out same = subst (tells_by built acked.Held) same refl
tells-placed built (acked.Faulted kind index) report out same = tells-fault built kind index (slice_get built.places index) out refl same
tells-placed built acked.Stopped report out same = subst (tells_by built acked.Stopped) same refl
