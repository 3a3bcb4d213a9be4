-- How a run ends once its output is made, or once it is known that there is none.
use Rattle.std.specs.Prelude.{◌≡◌, ◌≢◌, ℕ, Result, Ok, Err, List, []}
use Rattle.ccp_base.specs.Outside.{Rose, Appends, AppendsPrefix, no_memory}
use Rattle.run_ending.specs.declared.outcome.ModeOutput.{ModeOutput}
use Rattle.run_ending.specs.declared.outcome.Outcome.{Outcome}
use Rattle.run_ending.specs.declared.refusal.Limit.{Limit}
use Rattle.run_ending.specs.declared.refusal.Refusal.{Refusal}
use Rattle.run_ending.specs.declared.refusal.Refusal.TheVariants.{TooLong}
use Rattle.run_ending.specs.declared.status.Status.{Status}
use Rattle.run_ending.specs.declared.status.Status.TheVariants as status
use Rattle.run_ending.specs.declared.stop.Stop.{Stop}
use Rattle.run_ending.specs.declared.stop.Stop.TheVariants as stop
use Rattle.run_ending.specs.ErrorLine.{refusal_line}
use Rattle.run_ending.specs.Statuses.{status_number, read_line, write_line, memory_line}
use Rattle.run_ending.specs.Streams.{StreamChange, Tells}

-- the run ends with this status, reports this line, and keeps nothing
pub record Ends (errors : StreamChange) (outcome : Outcome) (end : Status) (line : List ℕ) : Type 0 where
  pub status : outcome.status ≡ status_number end
  pub books : outcome.books ≡ []
  pub programs : outcome.programs ≡ []
  pub ran : outcome.ran ≡ 0
  pub told : Tells errors line

-- the whole output was written and the sink finished, nothing was reported, and the rest of the output is kept
pub record WritesAll (sink errors : StreamChange) (is_finished : Type 0) (outcome : Outcome)
    (output : ModeOutput) : Type 0 where
  pub written : Appends sink.old sink.new output.text
  pub finished : is_finished
  pub books : outcome.books ≡ output.books
  pub programs : outcome.programs ≡ output.programs
  pub ran : outcome.ran ≡ output.ran
  pub quiet : errors.new ≡ errors.old

-- a write failed, and a front of the output was written
pub record FailsToWrite (sink errors : StreamChange) (outcome : Outcome) (output : ModeOutput) : Type 0 where
  pub ends : Ends errors outcome status.WriteFailed write_line
  pub rose : Rose sink.before sink.now
  pub front : AppendsPrefix sink.old sink.new output.text

-- the output is written, or a write fails
pub record Writes (sink errors : StreamChange) (is_finished : Type 0) (outcome : Outcome)
    (output : ModeOutput) : Type 0 where
  pub whole : outcome.status ≡ status_number status.Done → WritesAll sink errors is_finished outcome output
  pub failed : outcome.status ≢ status_number status.Done → FailsToWrite sink errors outcome output

-- the refusal is reported, or out of memory for its line; that the input is too long is always reported
pub record Refuses (errors : StreamChange) (outcome : Outcome) (refusal : Refusal) : Type 0 where
  pub told : outcome.status ≡ status_number status.InputRefused
      → Ends errors outcome status.InputRefused (refusal_line refusal)
  pub failed : outcome.status ≢ status_number status.InputRefused → Ends errors outcome (status.NoMemory no_memory) memory_line
  pub too_long : (limit : Limit) → refusal ≡ TooLong limit → outcome.status ≡ status_number status.InputRefused

-- how a run with this outcome ends; if there is no output the sink is as it was
abbrev pub IsEnding : StreamChange → StreamChange → Type 0 → Outcome → Result ModeOutput Stop → Type 0
IsEnding sink errors is_finished outcome (Ok output) = Writes sink errors is_finished outcome output
IsEnding sink errors is_finished outcome (Err (stop.Refused refusal)) =
    (sink.new ≡ sink.old) × Refuses errors outcome refusal
IsEnding sink errors is_finished outcome (Err stop.ReadFailed) =
    (sink.new ≡ sink.old) × Ends errors outcome status.ReadFailed read_line
IsEnding sink errors is_finished outcome (Err (stop.NoMemory no_memory)) =
    (sink.new ≡ sink.old) × Ends errors outcome (status.NoMemory no_memory) memory_line
