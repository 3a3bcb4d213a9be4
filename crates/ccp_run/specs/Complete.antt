-- What decides whether a run refuses its input, if the source shows its bytes.
use Rattle.std.specs.Prelude.{◌≡◌, ◌≤◌, ◌<◌, ◌⊎◌, List, ℕ, true, Some, length}
use Rattle.ccp_base.specs.Outside.{Rose, no_memory}
use Rattle.run_ending.specs.declared.outcome.Outcome.{Outcome}
use Rattle.run_ending.specs.declared.refusal.Refusal.{Refusal}
use Rattle.run_ending.specs.declared.status.Status.{Status}
use Rattle.run_ending.specs.declared.status.Status.TheVariants as status
use Rattle.run_ending.specs.Statuses.{status_number}
use Rattle.run_ending.specs.Streams.{StreamChange}
use Rattle.ccp_run.specs.Modes.{Task, limit_of, is_read, is_answered, IsInput, IsInputRefusal}
use Rattle.ccp_run.specs.Run.{IsRun}

-- the run ended so, or out of memory
abbrev pub EndsAs : Status → Outcome → Type 0
EndsAs end outcome = (outcome.status ≡ status_number end) ⊎ (outcome.status ≡ status_number (status.NoMemory no_memory))

-- bytes are past the limit, or have a first refusal
abbrev pub IsNoInput : Task → List ℕ → Type 0
IsNoInput task bytes =
    ((is_read task ≡ true) × (limit_of task < length bytes)) ⊎ ((refusal : Refusal) × IsInputRefusal task bytes refusal)

-- if no count of faults rose, an input of the mode within the limit is answered by the mode's output, and every
-- other one is refused; the sink's count matters to a refusal only if answers are written before it
pub record AnswersOrRefuses (task : Task) (source sink : StreamChange) (outcome : Outcome) : Type 0 where
  pub answered : (bytes : List ℕ) → source.old ≡ Some bytes → length bytes ≤ limit_of task → IsInput task bytes
      → (Rose source.before source.now → ⊥) → (Rose sink.before sink.now → ⊥)
      → EndsAs status.Done outcome
  pub refused : (bytes : List ℕ) → source.old ≡ Some bytes → IsNoInput task bytes
      → (Rose source.before source.now → ⊥) → (is_answered task ≡ true → Rose sink.before sink.now → ⊥)
      → EndsAs status.InputRefused outcome

-- what a call does that is given a task: it is a run of the task, and a complete one
pub record DoesTask (task : Task) (source sink errors : StreamChange) (is_finished : Type 0)
    (outcome : Outcome) : Type 0 where
  pub run : IsRun task source sink errors is_finished outcome
  pub complete : AnswersOrRefuses task source sink outcome
