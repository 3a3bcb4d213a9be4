-- What starts, updates and acknowledgements make of a machine.
use Rattle.std.specs.Prelude.{ℕ, Bool, true, false, Option, Some, None, List}
use Rattle.ccp_base.specs.declared.ack.Ack.{Ack}
use Rattle.ccp_base.specs.FieldReg.{Pair}
use Rattle.reg_code.specs.declared.code.Code.{Code}
use Rattle.reg_code.specs.CodeStep.{CodeOutcome, quiet, reported, held, faulted, lost, Made, one_by_code}
use Rattle.reg_code.specs.CodeStart.{with_values, started}
use Rattle.fold_machine.specs.declared.acked.Acked.{Acked}
use Rattle.fold_machine.specs.declared.acked.Acked.TheVariants as acked
use Rattle.fold_machine.specs.MachineState.{MachineState}

-- ---- what a start, an update and an acknowledgement do, cited by the machine's clauses

-- a start gives each register its start value and then writes the values, but keeps `Cwnd` and `Rate` unless the
-- values name them
abbrev pub started_by : Code → List Pair → ℕ → MachineState → MachineState
started_by code values now state = record state {
  kept = started code values state.kept.cwnd state.kept.rate now;
  is_started = true;
  is_stopped = false;
  ran = 0;
}

-- an update writes its values, and doesn't start a stopped program
abbrev pub updated_by : List Pair → MachineState → MachineState
updated_by values state = record state { kept = with_values values state.kept }

-- the answer for an outcome; accepted code is never lost
abbrev pub answer_for : CodeOutcome → Option Acked
answer_for quiet = Some acked.Quiet
answer_for (reported fields) = Some acked.Reported
answer_for held = Some acked.Held
answer_for (faulted kind index) = Some (acked.Faulted kind index)
answer_for lost = None

-- a fault stops the program
abbrev pub stops : CodeOutcome → Bool
stops (faulted kind index) = true
stops quiet = false
stops (reported fields) = false
stops held = false
stops lost = false

abbrev pub report_after : CodeOutcome → List ℕ → List ℕ
report_after (reported fields) report = fields
report_after quiet report = report
report_after held report = report
report_after (faulted kind index) report = report
report_after lost report = report

abbrev pub after_made : Made → MachineState → Option Acked × MachineState
after_made made state = (
  answer_for made.outcome,
  record state {
    kept = made.kept;
    is_stopped = stops made.outcome;
    ran = made.ran;
    report = report_after made.outcome state.report;
  },
)

-- acknowledgements of a stopped program aren't run
abbrev pub heard_where : Bool → Code → Ack → Bool → MachineState → Option Acked × MachineState
heard_where true code ack room state = (Some acked.Stopped, record state { ran = 0 })
heard_where false code ack room state = after_made (one_by_code code state.kept ack room) state

-- the answer to an acknowledgement, and the machine after it
abbrev pub after_acknowledgement : Code → Ack → Bool → MachineState → Option Acked × MachineState
after_acknowledgement code ack room state = heard_where state.is_stopped code ack room state

-- ---- what the code of the machine and of a fold reads off an answer; no public clause cites it

-- whether an answer is a fault
abbrev pub is_fault : Acked → Bool
is_fault acked.Quiet = false
is_fault acked.Reported = false
is_fault acked.Held = false
is_fault (acked.Faulted kind index) = true
is_fault acked.Stopped = false

-- how many fields the last report has after an answer, if a new one has `count` and the old one has `before`
abbrev pub count_after : Acked → ℕ → ℕ → ℕ
count_after acked.Quiet count before = before
count_after acked.Reported count before = count
count_after acked.Held count before = before
count_after (acked.Faulted kind index) count before = before
count_after acked.Stopped count before = before
