-- What the process does with the words that the system gives it, and the status with which it ends.
use Rattle.std.specs.Prelude.{◌≡◌, ◌⊎◌, ℕ, Option, Result, Ok, Err, List, map, String, string_bytes}
use Rattle.std.specs.Iterator.{Drains}
use Rattle.std.specs.IoError.{error_kind}
use Rattle.std.specs.declared.io.Error.{Error}
use Rattle.ccp_base.specs.Outside.{no_memory}
use Rattle.run_ending.specs.declared.outcome.Outcome.{Outcome}
use Rattle.run_ending.specs.declared.status.Status.{Status}
use Rattle.run_ending.specs.declared.status.Status.TheVariants as ends
use Rattle.run_ending.specs.Statuses.{status_number, words_line, memory_line}
use Rattle.run_ending.specs.Streams.{StreamChange, IsUntouched, Tells}
use Rattle.ccp_run.specs.Tool.{DoesWords}
use Rattle.ccp.specs.declared.words.WordsFault.{WordsFault}
use Rattle.ccp.specs.declared.words.WordsFault.TheVariants as faults
use Rattle.ccp.specs.Words.{words_fault}

-- the status is that of a run on the words
pub record IsExit (words : List (List ℕ)) (source sink errors : StreamChange) (is_finished : Type 0)
    (status : ℕ) : Type 0 where
  pub outcome : Outcome
  pub is : status ≡ outcome.status
  pub run : DoesWords words source sink errors is_finished outcome

-- the line is reported, and the status is that of this end
pub record Reports (end : Status) (line : List ℕ) (errors : StreamChange) (number : ℕ) : Type 0 where
  pub is : number ≡ status_number end
  pub told : Tells errors line

-- words that aren't text are reported as words are that the tool doesn't accept
abbrev pub ReportsFault : WordsFault → StreamChange → ℕ → Type 0
ReportsFault faults.NotText errors number = Reports ends.WordsRefused words_line errors number
ReportsFault (faults.NoMemory _) errors number = Reports (ends.NoMemory no_memory) memory_line errors number

-- nothing is read or written, and why there are no words is reported
pub record EndsWithout (fault : WordsFault) (source sink errors : StreamChange) (number : ℕ) : Type 0 where
  pub unread : IsUntouched source
  pub unwritten : IsUntouched sink
  pub reported : ReportsFault fault errors number

-- a run on all the words that the system gives, in order
pub record RunsOnAll {I Z : Type 0} (next : I → Option (String Z) → I → Type 0) (given : I)
    (source sink errors : StreamChange) (is_finished : Type 0) (number : ℕ) : Type 0 where
  pub words : List (String Z)
  pub all : Drains next given words
  pub exit : IsExit (map string_bytes words) source sink errors is_finished number

-- the process runs the tool on all the words that the system gives, unless there is no memory for their list; if the
-- system reports an error instead, it ends without a run
abbrev pub IsProcess : {I Z : Type 0} → (I → Option (String Z) → I → Type 0) → Result I Error → StreamChange
    → StreamChange → StreamChange → Type 0 → ℕ → Type 0
IsProcess next (Ok given) source sink errors is_finished number =
    RunsOnAll next given source sink errors is_finished number ⊎ EndsWithout (faults.NoMemory no_memory) source sink errors number
IsProcess next (Err error) source sink errors is_finished number =
    EndsWithout (words_fault (error_kind error)) source sink errors number
