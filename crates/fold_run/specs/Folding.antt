-- How far a fold has come, as an epoch of the source and as a run of the code.
use Rattle.std.specs.Prelude.{◌≡◌, ◌≤◌, ◌*◌, ℕ, true, Option, Some, is_some, option_map, slice_get, List, [], ◌∷◌, ◌++◌}
use Rattle.std.specs.Option.{ForSome, option_or}
use Rattle.ccp_base.specs.declared.ack.Ack.{Ack}
use Rattle.ccp_base.specs.declared.arithmetic.FaultKind.{FaultKind}
use Rattle.ccp_base.specs.declared.exchange.Notice.{Notice}
use Rattle.ccp_base.specs.declared.exchange.Report.{Report}
use Rattle.ccp_base.specs.declared.place.Place.{Place}
use Rattle.ccp_base.specs.RunningEpochs.{report_at, reported_epoch, notice_at}
use Rattle.portus_core.specs.declared.env.Env.{Env}
use Rattle.portus_core.specs.declared.env.Mean.{Mean}
use Rattle.portus_core.specs.OneAcknowledgement.{one_of}
use Rattle.portus_core.specs.ProgramForm.{form_of}
use Rattle.portus_core.specs.Epoch.{Track, after_event, by_source}
use Rattle.portus_core.specs.Reports.{event_fault, reports_at}
use Rattle.portus_core.specs.Value.{Cause}
use Rattle.reg_code.specs.declared.code.Code.{Code}
use Rattle.reg_code.specs.CodeStep.{Kept, Made, one_by_code}
use Rattle.reg_compiler.specs.declared.built.Built.{Built}
use Rattle.reg_compiler.specs.Simulation.{env_of}
use Rattle.fold_machine.specs.MachineState.{Fits}
use Rattle.fold_run.specs.Fold.{IsFoldNotice, fold_reporter, told_fault, with_room}
use Rattle.report_lines.specs.declared.end_line.End.{End}
use Rattle.fold_run.specs.declared.folded.Folded.{Folded}
use Rattle.fold_run.specs.declared.folding.Folding.{Folding}
use Rattle.fold_run.specs.Ran.{CodeRun, running_after}

-- the state of a fold's epoch
abbrev pub folding_track : Folding → Track
folding_track folding = record {
  env = env_of folding.machine.kept;
  is_stopped = folding.machine.is_stopped;
  first = folding.epoch.first;
  count = folding.count;
}

-- the state of a fold's code
abbrev pub folding_code_run : Folding → CodeRun
folding_code_run folding = record {
  kept = folding.machine.kept;
  is_stopped = folding.machine.is_stopped;
  ran = folding.ran;
}

-- the fold's machine runs this code, at most 2^32 instructions an acknowledgement, and it is stopped if there was a
-- fault; its one epoch is number 0 of program 0
pub record IsFoldOf (code : Code) (folding : Folding) : Type 0 where
  pub fits : Fits folding.machine code
  pub stopped : folding.machine.is_stopped ≡ is_some folding.fault
  pub ran : folding.ran ≤ folding.count * 4294967296
  pub program : folding.epoch.program ≡ 0
  pub number : folding.epoch.number ≡ 0

-- a fold after a report of the span up to the acknowledgements counted
abbrev pub reported_by : Folding → Ack → Folding
reported_by folding ack = record folding {
  epoch = reported_epoch folding.count folding.epoch;
  reports =
      folding.reports
      ++ report_at folding.epoch 0 folding.count ack.now folding.machine.kept.cwnd folding.machine.kept.rate
      folding.machine.report
      ∷ [];
}

-- the notice of a fold, if it has one, is of one of these acknowledgements
abbrev pub HasNotice : List Ack → List Place → Folding → Type 0
HasNotice acks places folding = ForSome folding.fault (IsFoldNotice acks places folding.machine.kept.cwnd)

-- the same of a fold that has ended
abbrev pub HasEndNotice : List Ack → List Place → Folded → Type 0
HasEndNotice acks places folded = ForSome folded.fault (IsFoldNotice acks places folded.end.cwnd)

-- ---- one acknowledgement

-- what the program means at it, if its code has these registers
abbrev pub by_program : Built → Kept → Ack → Mean × Env
by_program built kept ack = one_of (form_of built.program) (env_of kept) ack true

-- what its code does at it
abbrev pub made_by_code : Built → Kept → Ack → Made
made_by_code built kept ack = one_by_code built.code.code kept ack true

-- the state of the program after it
abbrev pub track_after : Built → Folding → Ack → Track
track_after built folding ack = after_event (by_source (form_of built.program)) (with_room ack) (folding_track folding)

-- the state of the code after it
abbrev pub code_after : Built → Folding → Ack → CodeRun
code_after built folding ack = running_after built.code.code (folding_code_run folding) ack

-- the reports of it
abbrev pub reports_after : Built → Folding → Ack → List Report
reports_after built folding ack =
    reports_at (by_source (form_of built.program)) fold_reporter (with_room ack) (folding_track folding)

-- the fault so far
abbrev pub fault_in : Built → Folding → Option (ℕ × Cause)
fault_in built folding = option_map (told_fault built.places) folding.fault

-- the fault after it, which is the first one
abbrev pub fault_after : Built → Folding → Ack → Option (ℕ × Cause)
fault_after built folding ack =
    option_or (fault_in built folding)
    (event_fault (by_source (form_of built.program)) (with_room ack) (folding_track folding))

-- if it is the next of some acknowledgements, the notice is still of one of these
abbrev pub KeepsNotice : Built → Ack → Folding → Folding → Type 0
KeepsNotice built ack before now =
    (acks : List Ack)
    → slice_get acks before.count ≡ Some ack
    → HasNotice acks built.places before
    → HasNotice acks built.places now

-- the notice of a fault at it
abbrev pub folding_notice : Folding → ℕ → FaultKind → ℕ → ℕ → Notice
folding_notice folding at kind index now = notice_at folding.epoch 0 at now folding.machine.kept.cwnd kind index

-- ---- the end

abbrev pub end_with : Folding → End
end_with folding = record {
  acks = folding.count;
  first = folding.epoch.first;
  stopped = is_some folding.fault;
  cwnd = folding.machine.kept.cwnd;
  rate = folding.machine.kept.rate;
  fields = folding.machine.kept.reports;
}
