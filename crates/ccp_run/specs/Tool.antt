-- What the whole tool promises on words.
use Rattle.std.specs.Prelude.{◌≡◌, ◌≢◌, ◌↔◌, ℕ, true, false, Some, IsSome, List}
use Rattle.ccp_base.specs.Outside.{no_memory}
use Rattle.ccp_words.specs.declared.words.Asked.{Asked}
use Rattle.ccp_words.specs.Words.{are_accepted, asked_in}
use Rattle.run_ending.specs.declared.outcome.Outcome.{Outcome}
use Rattle.run_ending.specs.declared.status.Status.TheVariants as status
use Rattle.run_ending.specs.Statuses.{status_number}
use Rattle.run_ending.specs.Streams.{StreamChange}
use Rattle.ccp_run.specs.Complete.{AnswersOrRefuses}
use Rattle.ccp_run.specs.Modes.{task_of}
use Rattle.ccp_run.specs.Run.{IsRun, IsUnasked}

pub record DoesWords (given : List (List ℕ)) (source sink errors : StreamChange) (is_finished : Type 0)
    (outcome : Outcome) : Type 0 where
  -- status 2 comes exactly if the words aren't accepted; then nothing is read or written
  pub words : outcome.status ≢ status_number (status.NoMemory no_memory)
      → (outcome.status ≡ status_number status.WordsRefused) ↔ (are_accepted given ≡ false)
  pub unasked : are_accepted given ≡ false → IsUnasked source sink errors outcome
  -- else it is a run of the mode that they ask for
  pub asks : outcome.status ≢ status_number status.WordsRefused → outcome.status ≢ status_number (status.NoMemory no_memory)
      → IsSome (asked_in given)
  pub asked : (asked : Asked) → are_accepted given ≡ true → asked_in given ≡ Some asked
      → IsRun (task_of asked) source sink errors is_finished outcome
  -- an input of that mode is answered, and every other is refused
  pub complete : (asked : Asked) → are_accepted given ≡ true → asked_in given ≡ Some asked
      → AnswersOrRefuses (task_of asked) source sink outcome
