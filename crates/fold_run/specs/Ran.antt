-- How many instructions a code runs over acknowledgements.
use Rattle.std.specs.Prelude.{ℕ, ◌+◌, Bool, true, false, List, [], fold}
use Rattle.ccp_base.specs.declared.ack.Ack.{Ack}
use Rattle.reg_code.specs.declared.code.Code.{Code}
use Rattle.reg_code.specs.CodeStep.{Kept, Made, one_by_code}
use Rattle.reg_code.specs.CodeStart.{started}
use Rattle.fold_machine.specs.Heard.{stops}

-- the state of a run of a code: the registers that it keeps, whether a fault has stopped it, and how many
-- instructions it has run
pub record CodeRun : Type 0 where
  pub kept : Kept
  pub is_stopped : Bool
  pub ran : ℕ

-- what an acknowledgement made is kept, and its instructions are counted; one that faulted was run too
abbrev pub with_made : Made → CodeRun → CodeRun
with_made made running = record { kept = made.kept; is_stopped = stops made.outcome; ran = running.ran + made.ran }

-- a stopped code runs no acknowledgement
abbrev pub running_where : Bool → Code → CodeRun → Ack → CodeRun
running_where true code running ack = running
running_where false code running ack = with_made (one_by_code code running.kept ack true) running

abbrev pub running_after : Code → CodeRun → Ack → CodeRun
running_after code running ack = running_where running.is_stopped code running ack

-- an epoch starts without values, and with `Cwnd`, `Rate` and time zero 0
abbrev pub running_start : Code → CodeRun
running_start code = record { kept = started code [] 0 0 0; is_stopped = false; ran = 0 }

-- how many instructions a code runs over acknowledgements
abbrev pub ran_of : Code → List Ack → ℕ
ran_of code acks = (fold (running_after code) (running_start code) acks).ran
