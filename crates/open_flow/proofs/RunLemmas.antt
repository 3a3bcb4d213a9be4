-- What an acknowledgement changes of what is kept is what it changes of the state.
use Rattle.std.specs.Prelude.{◌≡◌, ℕ, ◌+◌, ◌≤◌, Bool, true, false, Option, Some, None, option_map, List, ◌++◌, length, map, refl}
use Rattle.std.proofs.Common.{ap, sym, ◌∙◌, subst, arith, length-append}
use Rattle.std.proofs.lemmas.List.{map-append, length-map}
use Rattle.ccp_base.specs.declared.ack.Ack.{Ack}
use Rattle.ccp_base.specs.declared.arithmetic.FaultKind.{FaultKind}
use Rattle.ccp_base.specs.RunningEpochs.{Reporter, reporter}
use Rattle.ccp_base.specs.declared.running_epoch.RunningEpoch.{RunningEpoch}
use Rattle.portus_core.specs.declared.env.Env.{Env}
use Rattle.portus_core.specs.Programs.{Form}
use Rattle.portus_core.specs.ProgramForm.{form_of}
use Rattle.portus_core.specs.OneAcknowledgement.{IsEnvOf}
use Rattle.portus_core.specs.Value.{Cause}
use Rattle.portus_core.specs.Epoch.{Outcome, quiet, reported, held, failed, stopped, Track, heard, stops}
use Rattle.portus_core.specs.Reports.{reports_met}
use Rattle.reg_compiler.specs.declared.built.Built.{Built}
use Rattle.fold_machine.specs.declared.acked.Acked.{Acked}
use Rattle.fold_machine.specs.MachineState.{MachineState}
use Rattle.flow_core.specs.Readings.{env_of, by_code}
use Rattle.flow_core.specs.States.{outcome_by}
use Rattle.flow_core.specs.World.{failures_met, notice_with}
use Rattle.open_flow.specs.declared.account.Account.{Account}
use Rattle.open_flow.specs.declared.entry.Entry.{Entry}
use Rattle.open_flow.specs.Entries.{built_at}
use Rattle.open_flow.specs.OpenBooks.{seen_of, seen_as}
use Rattle.open_flow.specs.OpenCells.{HasOutcome}
use Rattle.open_flow.specs.Accounts.{faults_of, track_by, RecordsOutcome, met_in, HasRun}
use Rattle.open_flow.specs.OpenWorld.{Running}
use Rattle.open_flow.specs.States.{RunsEpoch, step_of, running_step, form_at}
use Rattle.open_flow.proofs.SeenLemmas.{placed, heard-placed, heard-env, stops-placed, first-placed, reports-placed, failures-placed, tells-placed}

-- the step that is kept is that of the program that runs
pub running-step : (entries : List Entry) (epoch : Option RunningEpoch) (present : Option Running) → RunsEpoch entries epoch present → step_of epoch ≡ running_step present
running-step entries None None runs = refl
running-step entries None (Some running) runs = absurd runs
running-step entries (Some epoch) None runs = absurd runs
running-step entries (Some epoch) (Some running) runs = ap Some (sym runs.program)

-- ---- counts

reports-count : (whose : Reporter) (track : Track) (ack : Ack) (outcome : Outcome (FaultKind × ℕ)) (env : Env)
    → length (reports_met whose track ack outcome env) ≤ 1
reports-count whose track ack quiet env = omega arith
reports-count whose track ack (reported fields) env = omega arith
reports-count whose track ack held env = omega arith
reports-count whose track ack (failed fault) env = omega arith
reports-count whose track ack stopped env = omega arith

-- a fault is recorded only if one is left, and none is left after it
faults-count : (step number at : ℕ) (ack : Ack) (reading : _) (is_stopped : Bool) (old : Env) (outcome : Outcome (FaultKind × ℕ)) (env : Env) (after : Bool)
    → heard {F = FaultKind × ℕ} reading is_stopped old ack true ≡ (outcome, env) → after ≡ stops outcome
    → length (failures_met step number at ack (outcome, env)) + faults_of after ≤ faults_of is_stopped
faults-count step number at ack reading true old outcome env after met is =
    let same : stopped ≡ outcome = ap (λ (m : Outcome (FaultKind × ℕ) × Env). m.0) met in
    subst (λ (o : Outcome (FaultKind × ℕ)). after ≡ stops o → length (failures_met step number at ack (o, env)) + faults_of after ≤ 0) same
    (λ now. subst (λ (b : Bool). 0 + faults_of b ≤ 0) (sym now) (omega arith)) is
faults-count step number at ack reading false old outcome env after met is =
    subst (λ (b : Bool). length (failures_met step number at ack (outcome, env)) + faults_of b ≤ 1) (sym is) (by outcome) where
      by : (o : Outcome (FaultKind × ℕ)) → length (failures_met step number at ack (o, env)) + faults_of (stops o) ≤ 1
      by quiet = omega arith
      by (reported fields) = omega arith
      by held = omega arith
      by (failed fault) = omega arith
      by stopped = omega arith

-- ---- what is recorded

some-form : (built : Option Built) (form : Form) → option_map (λ (b : Built). form_of b.program) built ≡ Some form → (one : Built) → built ≡ Some one → form_of one.program ≡ form
some-form built form is one same = ap (by form) (sym (ap (option_map (λ (b : Built). form_of b.program)) same) ∙ is) where
  by : Form → Option Form → Form
  by default None = default
  by default (Some f) = f

module _ (entries : List Entry) (flow at : ℕ) (epoch next : RunningEpoch) (machine new_machine : MachineState) (old new : Account) (built : Built) (ack : Ack) (answer : Acked)
    (is : built_at entries epoch.program ≡ Some built)
    (met : heard (by_code built.code.code) machine.is_stopped (env_of machine.kept) ack true ≡ (outcome_by answer new_machine.report, env_of new_machine.kept))
    (stopping : new_machine.is_stopped ≡ stops (outcome_by answer new_machine.report))
    (down : RecordsOutcome flow at epoch next old new ack (outcome_by answer new_machine.report, env_of new_machine.kept))
    (form : Form) (is_form : form_at entries epoch.program ≡ Some form) (shape : IsEnvOf form (env_of machine.kept)) where
  abbrev track : Track
  track = track_by at epoch machine

  -- the source's outcome
  abbrev source : Outcome Cause × Env
  source = met_in form track ack

  abbrev outcome : Outcome (FaultKind × ℕ)
  outcome = outcome_by answer new_machine.report

  same_form : form_of built.program ≡ form
  same_form = some-form (built_at entries epoch.program) form is_form built is

  old_shape : IsEnvOf (form_of built.program) (env_of machine.kept)
  old_shape = subst (λ (f : Form). IsEnvOf f (env_of machine.kept)) (sym same_form) shape

  placed-same : placed built.places outcome ≡ Some source.0
  placed-same =
      ap (λ (m : Outcome (FaultKind × ℕ) × Env). placed built.places m.0) (sym met)
      ∙ heard-placed (form_of built.program) built.code.code built.places built.simulates machine.is_stopped (env_of machine.kept) ack old_shape
      ∙ ap (λ (f : Form). Some (met_in f track ack).0) same_form

  env-same : env_of new_machine.kept ≡ source.1
  env-same =
      ap (λ (m : Outcome (FaultKind × ℕ) × Env). m.1) (sym met)
      ∙ heard-env (form_of built.program) built.code.code built.places built.simulates machine.is_stopped (env_of machine.kept) ack old_shape
      ∙ ap (λ (f : Form). (met_in f track ack).1) same_form

  pub told : HasOutcome (built_at entries epoch.program) answer source.0
  told = subst (λ (b : Option Built). HasOutcome b answer source.0) (sym is) (tells-placed built answer new_machine.report source.0 placed-same)

  pub heard-by : HasRun entries form flow at epoch next machine new_machine old new ack
  heard-by =
      let env = env_of new_machine.kept in
      let reports : new.reports.items ≡ old.reports.items ++ reports_met (reporter flow epoch.program epoch.number) track ack outcome env = down.reports track refl refl in
      let some = reports-count (reporter flow epoch.program epoch.number) track ack outcome env in
      let more = ap length reports ∙ length-append old.reports.items (reports_met (reporter flow epoch.program epoch.number) track ack outcome env) in
      let failures = failures_met epoch.program epoch.number at ack (outcome, env) in
      let faults : new.faults.items ≡ old.faults.items ++ map (notice_with flow (λ (site : ℕ). site)) failures = down.faults in
      let fault_count = faults-count epoch.program epoch.number at ack (by_code built.code.code) machine.is_stopped (env_of machine.kept) outcome env new_machine.is_stopped met stopping in
      let fault_more = ap length faults ∙ length-append old.faults.items (map (notice_with flow (λ (site : ℕ). site)) failures) in
      let fault_long = length-map failures (notice_with flow (λ (site : ℕ). site)) in
      record {
        env = env-same;
        stopping = stopping ∙ stops-placed built.places outcome source.0 placed-same;
        frame = down.frame;
        first = down.first track refl refl ∙ first-placed built.places track outcome source.0 placed-same;
        reports = reports
            ∙ (λ i. old.reports.items ++ reports-placed built.places (reporter flow epoch.program epoch.number) track ack env outcome source.0 placed-same i)
            ∙ (λ i. old.reports.items ++ reports_met (reporter flow epoch.program epoch.number) track ack source.0 (env-same i));
        faults =
            ap (map (seen_of entries)) faults
            ∙ map-append (seen_of entries) old.faults.items (map (notice_with flow (λ (site : ℕ). site)) failures)
            ∙ (λ i. map (seen_of entries) old.faults.items ++ failures-placed entries flow epoch.program epoch.number at ack env built is outcome source.0 placed-same i)
            ∙ (λ i. map (seen_of entries) old.faults.items ++ map (seen_as flow) (failures_met epoch.program epoch.number at ack (source.0, env-same i)));
        reports_most = omega (arith, some, more);
        faults_most = omega (arith, fault_count, fault_more, fault_long);
        reports_room = down.reports_room;
        faults_room = down.faults_room;
      }
