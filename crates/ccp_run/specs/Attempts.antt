-- A mode's outcome before anything is written: its output, or why there is none.
use Rattle.std.specs.Prelude.{◌≡◌, ◌≤◌, ◌⊎◌, ℕ, ◌+◌, Bool, true, false, Result, Ok, Err, List, ◌++◌, length}
use Rattle.ccp_base.specs.Outside.{Rose, Takes, TakesOver, TakesWithin}
use Rattle.run_ending.specs.declared.outcome.ModeOutput.{ModeOutput}
use Rattle.run_ending.specs.declared.refusal.Limit.{Limit}
use Rattle.run_ending.specs.declared.refusal.Refusal.{Refusal}
use Rattle.run_ending.specs.declared.refusal.Refusal.TheVariants.{TooLong}
use Rattle.run_ending.specs.declared.stop.Stop.{Stop}
use Rattle.run_ending.specs.declared.stop.Stop.TheVariants as stop
use Rattle.run_ending.specs.ErrorLine.{most_bytes}
use Rattle.run_ending.specs.Streams.{StreamChange, ReadsToEnd, HasInput, IsLeft}
use Rattle.ccp_run.specs.Modes.{Task, limit_in, limit_of, is_read, IsMade, IsInputRefusal}

-- the mode's output for bytes, or the first refusal of these
abbrev pub IsOutputOrRefusal : Task → List ℕ → Result ModeOutput Stop → Type 0
IsOutputOrRefusal task bytes (Ok output) = IsMade task bytes output
IsOutputOrRefusal task bytes (Err (stop.Refused refusal)) = IsInputRefusal task bytes refusal
IsOutputOrRefusal task bytes (Err stop.ReadFailed) = ⊥
IsOutputOrRefusal task bytes (Err (stop.NoMemory _)) = Unit {0}

-- the input was read to its end, is within the limit, and the mode makes this of it
pub record MakesOutput (task : Task) (source : StreamChange) (output : ModeOutput) : Type 0 where
  pub bytes : List ℕ
  pub read : HasInput (is_read task) source bytes
  pub short : length bytes ≤ limit_of task
  pub made : IsMade task bytes output

-- the input was read to its end, is within the limit, and this is its first refusal
pub record RefusesBytes (task : Task) (source : StreamChange) (refusal : Refusal) : Type 0 where
  pub bytes : List ℕ
  pub read : HasInput (is_read task) source bytes
  pub short : length bytes ≤ limit_of task
  pub cause : IsInputRefusal task bytes refusal

-- more bytes were taken than the limit, and that is the refusal
pub record RefusesLength (task : Task) (source : StreamChange) (refusal : Refusal) : Type 0 where
  pub reads : is_read task ≡ true
  pub over : TakesOver (limit_of task) source.old source.new
  pub most : TakesWithin (limit_of task + 1) source.old source.new
  pub cause : refusal ≡ TooLong (limit_in task)

-- an input past the limit is refused as too long and as nothing else
abbrev pub RefusesInput : Task → StreamChange → Refusal → Type 0
RefusesInput task source refusal = RefusesLength task source refusal ⊎ RefusesBytes task source refusal

-- what was taken of the input has this refusal, whatever follows
pub record RefusesEarly (task : Task) (source : StreamChange) (refusal : Refusal) : Type 0 where
  pub bytes : List ℕ
  pub taken : Takes source.old source.new bytes
  pub cause : (more : List ℕ) → IsInputRefusal task (bytes ++ more) refusal

-- whether the input is judged as it comes, and how it is refused then or else
abbrev pub RefusesAny : Bool → Task → StreamChange → Refusal → Type 0
RefusesAny true task source refusal = RefusesEarly task source refusal ⊎ RefusesBytes task source refusal
RefusesAny false task source refusal = RefusesInput task source refusal

-- a read failed, before more bytes were taken than the limit
pub record FailsToRead (task : Task) (source : StreamChange) : Type 0 where
  pub reads : is_read task ≡ true
  pub rose : Rose source.before source.now
  pub within : TakesWithin (limit_of task) source.old source.new

-- out of memory, before more bytes were taken than the limit
pub record StopsWithoutMemory (task : Task) (source : StreamChange) : Type 0 where
  pub left : IsLeft (is_read task) source
  pub within : TakesWithin (limit_of task) source.old source.new

-- the source was read to its end within the limit, or why it wasn't
abbrev pub IsReadWithin : Limit → StreamChange → Result (List ℕ) Stop → Type 0
IsReadWithin limit source (Ok bytes) = ReadsToEnd source bytes × (length bytes ≤ most_bytes limit)
IsReadWithin limit source (Err (stop.Refused refusal)) =
    TakesOver (most_bytes limit) source.old source.new × TakesWithin (most_bytes limit + 1) source.old source.new
    × (refusal ≡ TooLong limit)
IsReadWithin limit source (Err stop.ReadFailed) =
    Rose source.before source.now × TakesWithin (most_bytes limit) source.old source.new
IsReadWithin limit source (Err (stop.NoMemory _)) = TakesWithin (most_bytes limit) source.old source.new

abbrev pub IsAttempt : Task → StreamChange → Result ModeOutput Stop → Type 0
IsAttempt task source (Ok output) = MakesOutput task source output
IsAttempt task source (Err (stop.Refused refusal)) = RefusesInput task source refusal
IsAttempt task source (Err stop.ReadFailed) = FailsToRead task source
IsAttempt task source (Err (stop.NoMemory _)) = StopsWithoutMemory task source
