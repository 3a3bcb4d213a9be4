-- What a worker of a campaign does: it runs its cases in order, each between two points of the gate.
use Rattle.std.specs.Prelude.{◌≡◌, ℕ, Option, List, [], ◌∷◌, ◌++◌}
use Rattle.ccp_base.specs.declared.gate.Point.TheVariants.{InCase, AfterCase}
use Rattle.worker_desk.specs.declared.event.CaseEvent.{CaseEvent}
use Rattle.worker_desk.specs.declared.event.CaseEvent.TheVariants.{Passed, Ran}
use Rattle.worker_desk.specs.Logs.{Logs}
use Rattle.worker_desk.specs.Serving.{flows_of_worker}

-- what was done at a desk of cases, if it keeps that
abbrev pub CaseLog : Type 0
CaseLog = Option (List CaseEvent)

-- the cases below a number that are a worker's, by the rule for flows: the cases `c` with `c mod workers = worker`
abbrev pub cases_of_worker : ℕ → ℕ → ℕ → List ℕ
cases_of_worker worker workers cases = flows_of_worker worker workers cases

-- a case in which memory may have run out
abbrev pub begun_case : ℕ → ℕ → List CaseEvent
begun_case worker case = Passed worker InCase case ∷ Ran case ∷ []

-- a case that was run to its end
abbrev pub ended_case : ℕ → ℕ → List CaseEvent
ended_case worker case = begun_case worker case ++ Passed worker AfterCase case ∷ []

-- cases that were run to their ends, one after another
abbrev pub run_events : ℕ → List ℕ → List CaseEvent
run_events worker [] = []
run_events worker (case ∷ cases) = ended_case worker case ++ run_events worker cases

-- a worker ran some first cases of these to their ends, and memory ran out in the next one
pub record Stops (worker : ℕ) (cases : List ℕ) (old new : CaseLog) : Type 0 where
  pub done : List ℕ
  pub case : ℕ
  pub rest : List ℕ
  pub split : cases ≡ done ++ case ∷ rest
  pub logs : Logs old new (run_events worker done ++ begun_case worker case)
