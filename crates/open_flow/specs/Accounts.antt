-- What running an acknowledgement changes of what is kept.
use Rattle.std.specs.Prelude.{◌≡◌, ℕ, ◌+◌, ◌<◌, ◌≤◌, Bool, true, false, List, ◌++◌, length, map}
use Rattle.ccp_base.specs.declared.ack.Ack.{Ack}
use Rattle.ccp_base.specs.declared.arithmetic.FaultKind.{FaultKind}
use Rattle.ccp_base.specs.RunningEpochs.{reporter}
use Rattle.ccp_base.specs.declared.running_epoch.RunningEpoch.{RunningEpoch}
use Rattle.portus_core.specs.declared.env.Env.{Env}
use Rattle.portus_core.specs.Programs.{Form}
use Rattle.portus_core.specs.Value.{Cause}
use Rattle.portus_core.specs.Epoch.{Outcome, Track, by_source, heard, stops, next_first}
use Rattle.portus_core.specs.Reports.{reports_met}
use Rattle.reg_code.specs.declared.code.Code.{Code}
use Rattle.fold_machine.specs.declared.acked.Acked.{Acked}
use Rattle.fold_machine.specs.declared.acked.Acked.TheVariants as acked
use Rattle.fold_machine.specs.MachineState.{MachineState}
use Rattle.flow_core.specs.Readings.{by_code, env_of}
use Rattle.flow_core.specs.Cores.{ran_by}
use Rattle.flow_core.specs.States.{outcome_by}
use Rattle.flow_core.specs.World.{failures_met, notice_with}
use Rattle.open_flow.specs.declared.account.Account.{Account}
use Rattle.open_flow.specs.declared.entry.Entry.{Entry}
use Rattle.open_flow.specs.OpenBooks.{seen_of, seen_as}

-- ---- the machine's answer

-- the outcome by the machine's answer, and the env that it keeps
abbrev pub met_as : Acked → MachineState → Outcome (FaultKind × ℕ) × Env
met_as answer machine = (outcome_by answer machine.report, env_of machine.kept)

-- an acknowledgement, with room, takes the machine from the one state to the other with this answer, as its code says
abbrev pub IsMet : Code → MachineState → Ack → MachineState → Acked → Type 0
IsMet code old ack new answer =
    heard (by_code code) old.is_stopped (env_of old.kept) ack true ≡ met_as answer new

-- how many instructions the machine runs on an acknowledgement with room
abbrev pub ran_on : Code → MachineState → Ack → ℕ
ran_on code machine ack = ran_by machine.is_stopped code (env_of machine.kept) ack true

-- there is room for the fault, if the answer is one
abbrev pub HasPlaceFor : Acked → Account → Type 0
HasPlaceFor answer account =
    (kind : FaultKind) (index : ℕ) → answer ≡ acked.Faulted kind index
    → length account.faults.items < account.faults.room

-- ---- what is recorded

-- what an outcome of the code with this env changes of the epoch that runs and of the account
pub record RecordsOutcome (flow at : ℕ) (epoch next : RunningEpoch) (old new : Account) (ack : Ack)
    (met : Outcome (FaultKind × ℕ) × Env) : Type 0 where
  pub frame : next ≡ record epoch { first = next.first }
  pub first : (track : Track) → track.first ≡ epoch.first → track.count ≡ at → next.first ≡ next_first met.0 track
  pub reports : (track : Track) → track.first ≡ epoch.first → track.count ≡ at
      → new.reports.items
      ≡ old.reports.items ++ reports_met (reporter flow epoch.program epoch.number) track ack met.0 met.1
  pub faults : new.faults.items
      ≡ old.faults.items
      ++ map (notice_with flow (λ (site : ℕ). site)) (failures_met epoch.program epoch.number at ack met)
  pub reports_room : new.reports.room ≡ old.reports.room
  pub faults_room : new.faults.room ≡ old.faults.room

-- the outcome of an acknowledgement if this program runs, always with room
abbrev pub met_in : Form → Track → Ack → Outcome Cause × Env
met_in form track ack = heard (by_source form) track.is_stopped track.env ack true

-- where the flow stands before it
abbrev pub track_by : ℕ → RunningEpoch → MachineState → Track
track_by at epoch machine = record {
  env = env_of machine.kept;
  is_stopped = machine.is_stopped;
  first = epoch.first;
  count = at;
}

-- how many faults a running program can still have
abbrev pub faults_of : Bool → ℕ
faults_of true = 0
faults_of false = 1

-- what an acknowledgement that is run changes, if this program runs
pub record HasRun (entries : List Entry) (form : Form) (flow at : ℕ) (epoch next : RunningEpoch)
    (machine new_machine : MachineState) (old new : Account) (ack : Ack) : Type 0 where
  pub env : env_of new_machine.kept ≡ (met_in form (track_by at epoch machine) ack).1
  pub stopping : new_machine.is_stopped ≡ stops (met_in form (track_by at epoch machine) ack).0
  pub frame : next ≡ record epoch { first = next.first }
  pub first : next.first ≡ next_first (met_in form (track_by at epoch machine) ack).0 (track_by at epoch machine)
  pub reports : new.reports.items
      ≡ old.reports.items
      ++ reports_met (reporter flow epoch.program epoch.number) (track_by at epoch machine) ack
      (met_in form (track_by at epoch machine) ack).0 (met_in form (track_by at epoch machine) ack).1
  pub faults : map (seen_of entries) new.faults.items
      ≡ map (seen_of entries) old.faults.items
      ++ map (seen_as flow)
      (failures_met epoch.program epoch.number at ack (met_in form (track_by at epoch machine) ack))
  pub reports_most : length new.reports.items ≤ length old.reports.items + 1
  pub faults_most : length new.faults.items + faults_of new_machine.is_stopped
      ≤ length old.faults.items + faults_of machine.is_stopped
  pub reports_room : new.reports.room ≡ old.reports.room
  pub faults_room : new.faults.room ≡ old.faults.room
