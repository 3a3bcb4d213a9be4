-- What holds of the events of a campaign's workers.
use Rattle.std.specs.Prelude.{◌≡◌, ◌==◌, ℕ, zero, suc, ◌+◌, ◌*◌, ◌-◌, ◌≤◌, nat_lt, Bool, true, cond, ◌&&◌, Some}
use Rattle.std.specs.Prelude.{List, [], ◌∷◌, ◌++◌, length, slice_get}
use Rattle.ccp_base.specs.declared.gate.Point.TheVariants.{InCase, AfterCase}
use Rattle.worker_desk.specs.declared.event.CaseEvent.{CaseEvent}
use Rattle.worker_desk.specs.declared.event.CaseEvent.TheVariants.{Passed, Ran}
use Rattle.worker_desk.specs.ServingLaw.{is_of}
use Rattle.worker_desk.specs.Cases.{cases_of_worker, run_events}

-- the cases that were run, in order
abbrev pub runs : List CaseEvent → List ℕ
runs [] = []
runs (Passed worker point case ∷ events) = runs events
runs (Ran case ∷ events) = case ∷ runs events

-- how often a number stands in a list
abbrev pub times : ℕ → List ℕ → ℕ
times number [] = 0
times number (head ∷ rest) = cond (head == number) 1 0 + times number rest

-- each number is greater than the one before it
abbrev pub is_rising : List ℕ → Bool
is_rising [] = true
is_rising (number ∷ []) = true
is_rising (number ∷ next ∷ rest) = nat_lt number next && is_rising (next ∷ rest)

pub record AreRunOnce (worker workers cases : ℕ) (events : List CaseEvent) : Type 0 where
  -- each case of the worker is run once, and no other case is
  pub once : (case : ℕ) → times case (runs events) ≡ cond (is_of worker workers cases case) 1 0
  -- the cases are run in order
  pub in_order : is_rising (runs events) ≡ true
  -- the event before a run is the worker's passing of `InCase` with the case's number
  pub entered : (place case : ℕ) → slice_get events place ≡ Some (Ran case)
      → slice_get events (place - 1) ≡ Some (Passed worker InCase case)
  -- the event after it is the passing of `AfterCase`
  pub left : (place case : ℕ) → slice_get events place ≡ Some (Ran case)
      → slice_get events (place + 1) ≡ Some (Passed worker AfterCase case)
  -- and there is no other event
  pub nothing_else : length events ≡ 3 * length (runs events)

-- what a worker of a campaign did that ran its cases to their ends
abbrev pub WorkerRunsOnce : Type 0
WorkerRunsOnce = (worker workers cases : ℕ)
    → AreRunOnce worker workers cases (run_events worker (cases_of_worker worker workers cases))

-- what the workers below a number did, worker after worker
abbrev pub events_below : ℕ → ℕ → ℕ → List CaseEvent
events_below workers cases zero = []
events_below workers cases (suc worker) =
    events_below workers cases worker ++ run_events worker (cases_of_worker worker workers cases)

-- all workers of a campaign together run each of its cases once, and nothing else
abbrev pub WorkersRunOnce : Type 0
WorkersRunOnce = (workers cases case : ℕ) → 1 ≤ workers
    → times case (runs (events_below workers cases workers)) ≡ cond (nat_lt case cases) 1 0
