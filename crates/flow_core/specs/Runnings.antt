-- A program that runs on a flow's acknowledgements: what the code keeps of it, the summary that it stands for, and the
-- steps of that. A step knows a flow's number and the code that runs, and nothing of a case or an agent.
use Rattle.std.specs.Prelude.{◌≡◌, nat_lt, ℕ, ◌+◌, ◌<◌, ◌≤◌, ◌++◌, Bool, is_some, Option, Some, None, option_map}
use Rattle.std.specs.Prelude.{unwrap_or, List, [], ◌∷◌, length}
use Rattle.ccp_base.specs.FieldReg.{Pair}
use Rattle.ccp_base.specs.Limits.{most_acks}
use Rattle.ccp_base.specs.declared.ack.Ack.{Ack}
use Rattle.ccp_base.specs.declared.arithmetic.FaultKind.{FaultKind}
use Rattle.ccp_base.specs.declared.exchange.Notice.{Notice}
use Rattle.ccp_base.specs.declared.exchange.Report.{Report}
use Rattle.ccp_base.specs.declared.exchange.Told.{Told}
use Rattle.ccp_base.specs.declared.exchange.Told.TheVariants as said
use Rattle.ccp_base.specs.RunningEpochs.{reporter, next_epoch}
use Rattle.portus_core.specs.declared.env.Env.{Env}
use Rattle.portus_core.specs.Epoch.{Outcome, quiet, reported, held, failed, stopped, stops, Reading, Track, track_at}
use Rattle.portus_core.specs.Epoch.{heard, after_outcome, with_values}
use Rattle.portus_core.specs.Reports.{report_of, reports_met}
use Rattle.reg_code.specs.declared.code.Code.{Code}
use Rattle.reg_code.specs.CodeStart.{declared_kept}
use Rattle.slot_pool.specs.Pool.{PoolState, words_at, free_of}
use Rattle.fold_machine.specs.MachineState.{Fits}
use Rattle.fold_machine.specs.Heard.{started_by}
use Rattle.fold_machine.specs.Store.{slot_words}
use Rattle.flow_lists.specs.Outbox.{Lies}
use Rattle.flow_lists.specs.ReportWords.{report_in}
use Rattle.flow_core.specs.declared.running.Issued.{Issued}
use Rattle.flow_core.specs.declared.running.Running.{Running}
use Rattle.flow_core.specs.Readings.{Flow, by_code, env_of}
use Rattle.flow_core.specs.World.{Failure, failure_with, failures_met, held_met, notice_with}
use Rattle.flow_core.specs.Cores.{ran_by}
use Rattle.flow_core.specs.LiveText.{reports_told}
use Rattle.flow_core.specs.States.{some_count}

-- ---- what is kept

-- the reports that the words of slots begin with
abbrev pub reports_in : PoolState → List ℕ → List Report
reports_in pool [] = []
reports_in pool (slot ∷ rest) = report_in (unwrap_or (words_at pool slot) []) ∷ reports_in pool rest

-- the ticket that is out, if one is: what the last one told, and when it was taken
abbrev pub out_by : Running → Option Issued
out_by s = option_map (λ taken. record { told = s.content; taken = taken }) s.taken

-- the present epoch's program, its number and its track; how many acknowledgements are in and the time of the
-- last one; the reports that wait and a notice that is untold; the ticket that is out; how many tickets were answered,
-- and how many of them told a report; how many faults there were, and how many reports were held
pub record RunningSummary : Type 0 where
  pub program : ℕ
  pub epoch : ℕ
  pub track : Track
  pub acks : ℕ
  pub time : ℕ
  pub waiting : List Report
  pub untold : Option Notice
  pub out : Option Issued
  pub answered : ℕ
  pub told : ℕ
  pub faults : ℕ
  pub held : ℕ

-- the summary that is kept
abbrev pub running_by : Running → RunningSummary
running_by s = record {
  program = s.epoch.program;
  epoch = s.epoch.number;
  track = record {
    env = env_of s.machine.kept;
    is_stopped = s.machine.is_stopped;
    first = s.epoch.first;
    count = s.acks;
  };
  acks = s.acks;
  time = s.time;
  waiting = reports_in s.machine.further s.outbox.slots;
  untold = s.outbox.untold;
  out = out_by s;
  answered = s.answered;
  told = s.told;
  faults = s.faults;
  held = s.held;
}

-- each acknowledgement made one report or notice at most, and each change was the answer to one
pub record AreCounted (s : RunningSummary) : Type 0 where
  pub tickets : (s.answered + some_count s.out) + (length s.waiting + some_count s.untold) ≤ s.acks
  pub epochs : s.epoch ≤ s.answered
  pub told : s.told ≤ s.answered
  pub faults : s.faults ≤ s.acks
  pub held : s.held ≤ s.acks

-- the machine's further slots are for the waiting reports, and the counts are in range
pub record IsRunning (s : Running) : Type 0 where
  pub words : s.machine.further.words ≡ slot_words
  pub free : free_of s.machine.further + length s.outbox.slots ≡ s.outbox.size
  pub lies : Lies s.machine.further s.outbox.slots (reports_in s.machine.further s.outbox.slots)
  pub counts : AreCounted (running_by s)

-- it runs the present one of these programs, by their numbers, and this many reports may wait
pub record RunsOn (codes : ℕ → Code) (slots : ℕ) (s : Running) : Type 0 where
  pub running : IsRunning s
  pub fits : Fits s.machine (codes s.epoch.program)
  pub size : s.outbox.size ≡ slots

-- ---- the start

-- the summary before the first acknowledgement, where the first epoch's program starts with this env
abbrev pub running_at_start : ℕ → Env → RunningSummary
running_at_start program env = record {
  program = program;
  epoch = 0;
  track = track_at 0 env;
  acks = 0;
  time = 0;
  waiting = [];
  untold = None;
  out = None;
  answered = 0;
  told = 0;
  faults = 0;
  held = 0;
}

-- the env that a code starts with, if these values are written and the window, the rate and the time are these
abbrev pub started_env : Code → List Pair → ℕ → ℕ → ℕ → Env
started_env code values cwnd rate now = with_values values (env_of (declared_kept code cwnd rate now))

-- ---- an acknowledgement

-- what an outcome records in the flow with this number, by the index of each fault's site, after the machine has run
abbrev pub step_note : {X : Type 0} → ℕ → (X → ℕ) → Ack → Outcome (FaultKind × X) → RunningSummary → RunningSummary
step_note flow index ack quiet s = s
step_note flow index ack stopped s = s
step_note flow index ack held s = record s { held = s.held + 1 }
step_note flow index ack (reported fields) s = record s {
  track = record s.track { first = s.track.count + 1 };
  waiting = s.waiting ++ report_of (reporter flow s.program s.epoch) s.track ack s.track.env fields ∷ [];
}
step_note flow index ack (failed fault) s = record s {
  untold =
      Some (notice_with flow index (failure_with s.program s.epoch s.track.count ack s.track.env.cwnd fault));
  faults = s.faults + 1;
}

-- the machine has run to this
abbrev pub step_machine : {X : Type 0} → Outcome (FaultKind × X) × Env → RunningSummary → RunningSummary
step_machine met s = record s { track = record s.track { env = met.1; is_stopped = stops met.0 } }

-- one acknowledgement more is in
abbrev pub step_count : Ack → RunningSummary → RunningSummary
step_count ack s = record s { acks = s.acks + 1; time = ack.now; track = record s.track { count = s.track.count + 1 } }

-- a fault leaves its notice untold
abbrev pub notice_after : {X : Type 0} → ℕ → (X → ℕ) → List (Failure X) → Option Notice → Option Notice
notice_after flow index [] untold = untold
notice_after flow index (failure ∷ rest) untold = Some (notice_with flow index failure)

-- an acknowledgement had this outcome
abbrev pub step_outcome : {X : Type 0}
    → ℕ → (X → ℕ) → Ack → Outcome (FaultKind × X) × Env → RunningSummary → RunningSummary
step_outcome flow index ack met s =
    let failures = failures_met s.program s.epoch s.track.count ack met in
    record s {
      track = after_outcome met s.track;
      acks = s.acks + 1;
      time = ack.now;
      waiting = s.waiting ++ reports_met (reporter flow s.program s.epoch) s.track ack met.0 met.1;
      untold = notice_after flow index failures s.untold;
      faults = s.faults + length failures;
      held = s.held + held_met met.0;
    }

-- the outcome of an acknowledgement by this reading of the program that runs, if this many reports may wait, and the env
-- after it
abbrev pub outcome_for : {F : Type 0} → Reading F → ℕ → Ack → RunningSummary → Outcome F × Env
outcome_for reading slots ack s =
    heard reading s.track.is_stopped s.track.env ack (nat_lt (length s.waiting) slots)

-- how many instructions an acknowledgement runs on this code
abbrev pub instructions_for : Code → ℕ → Ack → RunningSummary → ℕ
instructions_for code slots ack s =
    ran_by s.track.is_stopped code s.track.env ack (nat_lt (length s.waiting) slots)

-- an acknowledgement is run on this code, in the flow with this number
abbrev pub step_run : Code → ℕ → ℕ → Ack → RunningSummary → RunningSummary
step_run code flow slots ack s = step_outcome flow (λ (i : ℕ). i) ack (outcome_for (by_code code) slots ack s) s

-- the counts are in range
pub record CanNote (s : Running) : Type 0 where
  pub held : s.held < most_acks
  pub faults : s.faults < most_acks
  pub words : s.machine.further.words ≡ slot_words
  pub lies : Lies s.machine.further s.outbox.slots (reports_in s.machine.further s.outbox.slots)

abbrev pub HasSpace : Running → Type 0
HasSpace s = (length s.outbox.slots < s.outbox.size) × (0 < free_of s.machine.further)

-- what an outcome changes in the flow with this number
pub record Notes (flow : ℕ) (old new : Running) (ack : Ack) (outcome : Outcome (FaultKind × ℕ)) : Type 0 where
  pub frame : new ≡ record old {
    machine = new.machine;
    outbox = new.outbox;
    epoch = record old.epoch { first = new.epoch.first };
    faults = new.faults;
    held = new.held;
  }
  pub machine : new.machine ≡ record old.machine { further = new.machine.further }
  pub words : new.machine.further.words ≡ slot_words
  pub free :
      free_of new.machine.further + length new.outbox.slots ≡ free_of old.machine.further + length old.outbox.slots
  pub size : new.outbox.size ≡ old.outbox.size
  pub lies : Lies new.machine.further new.outbox.slots (reports_in new.machine.further new.outbox.slots)
  pub step_note : running_by new ≡ step_note flow (λ (i : ℕ). i) ack outcome (running_by old)

-- ---- a ticket is taken

-- the next report or notice, with what is left then
abbrev pub next_telling : List Report → Option Notice → Option (Told × (List Report × Option Notice))
next_telling (report ∷ rest) untold = Some (said.Report report, (rest, untold))
next_telling [] (Some notice) = Some (said.Fault notice, ([], None))
next_telling [] None = None

abbrev pub can_tell : RunningSummary → Bool
can_tell s = is_some (next_telling s.waiting s.untold)

abbrev pub with_told : Option (Told × (List Report × Option Notice)) → RunningSummary → RunningSummary
with_told None s = s
with_told (Some taken) s = record s {
  waiting = taken.1.0;
  untold = taken.1.1;
  out = Some (record { told = taken.0; taken = s.acks });
}

abbrev pub step_issue : RunningSummary → RunningSummary
step_issue s = with_told (next_telling s.waiting s.untold) s

-- ---- it is answered

-- the ticket that told this was answered
abbrev pub step_closed : Told → RunningSummary → RunningSummary
step_closed told s = record s { out = None; answered = s.answered + 1; told = s.told + reports_told told }

-- what is kept then
abbrev pub closed : Running → Running
closed s = record s { taken = None; answered = s.answered + 1; told = s.told + reports_told s.content }

-- an update writes its values
abbrev pub step_update : List Pair → RunningSummary → RunningSummary
step_update values s = record s { track = record s.track { env = with_values values s.track.env } }

-- a change starts a program, which has this env then, and an epoch, and makes an untold notice void
abbrev pub step_start : ℕ → Env → RunningSummary → RunningSummary
step_start program env s = record s {
  program = program;
  epoch = s.epoch + 1;
  track = track_at s.acks env;
  untold = None;
}

-- values for the program that runs, or for one that they start
abbrev pub step_values : {X : Type 0} → Flow X → Option ℕ → List Pair → RunningSummary → RunningSummary
step_values flow None values s = step_update values s
step_values flow (Some program) values s =
    step_start program (with_values values (flow.declared program s.track.env.cwnd s.track.env.rate s.time)) s

-- what a start keeps
abbrev pub started : Code → ℕ → List Pair → Running → Running
started code program values s = record s {
  machine = started_by code values s.time s.machine;
  epoch = next_epoch program s.acks s.epoch;
  outbox = record s.outbox { untold = None };
}
