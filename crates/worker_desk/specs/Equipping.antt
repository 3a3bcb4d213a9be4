-- What an installer does: step by step, it builds the texts of its flows, installs each, and changes the flow to it.
use Rattle.std.specs.Prelude.{◌≡◌, ℕ, zero, suc, true, false, List, [], ◌∷◌, ◌++◌, map, length, Bool}
use Rattle.ccp_base.specs.declared.gate.Point.TheVariants.{AfterTake, AfterSettle}
use Rattle.worker_desk.specs.declared.event.Event.{Event}
use Rattle.worker_desk.specs.declared.event.Event.TheVariants.{Passed, Locked, Unlocked, Built, Installed, Changed}
use Rattle.worker_desk.specs.Logs.{KnownLog, Logs}

-- what came of a step of a flow: there was no entry; it wasn't the next one; there was no program to change to; the
-- flow was changed
pub data StepOutcome : Type 0 where
  unbuilt : StepOutcome
  late : StepOutcome
  installed : StepOutcome
  changed : StepOutcome

-- an entry is put into a flow's library under its lock
abbrev pub installing : ℕ → ℕ → Bool → List Event
installing flow step is_next = Locked flow ∷ Installed flow step is_next ∷ Unlocked flow ∷ []

-- a flow is changed under its lock
abbrev pub changing : ℕ → Bool → List Event
changing flow is_changed = Locked flow ∷ Changed flow is_changed ∷ Unlocked flow ∷ []

-- what follows when an entry was installed
abbrev pub after_install : ℕ → ℕ → Bool → List Event
after_install worker flow false = changing flow false
after_install worker flow true = changing flow true ++ Passed worker AfterSettle flow ∷ []

-- what follows when an entry was built
abbrev pub after_build : ℕ → ℕ → ℕ → StepOutcome → List Event
after_build worker flow step unbuilt = []
after_build worker flow step late = installing flow step false
after_build worker flow step installed =
    installing flow step true ++ Passed worker AfterTake flow ∷ after_install worker flow false
after_build worker flow step changed =
    installing flow step true ++ Passed worker AfterTake flow ∷ after_install worker flow true

abbrev pub is_built : StepOutcome → Bool
is_built unbuilt = false
is_built late = true
is_built installed = true
is_built changed = true

-- a step of a flow: its text is built while no lock is held, and what came of it goes into the flow
abbrev pub equipping : ℕ → ℕ → ℕ → StepOutcome → List Event
equipping worker flow step outcome = Built flow step (is_built outcome) ∷ after_build worker flow step outcome

-- a step of a flow
pub record StepTask : Type 0 where
  pub flow : ℕ
  pub step : ℕ

-- steps of flows in order, with what came of each
abbrev pub equipped : ℕ → List StepTask → List StepOutcome → List Event
equipped worker tasks [] = []
equipped worker [] (outcome ∷ outcomes) = []
equipped worker (task ∷ tasks) (outcome ∷ outcomes) =
    equipping worker task.flow task.step outcome ++ equipped worker tasks outcomes

-- a step of each flow of a row
abbrev pub tasks_at : ℕ → List ℕ → List StepTask
tasks_at step row = map (λ flow. record { flow = flow; step = step }) row

-- the steps below a number of the flows of a row: of each flow one step, and then of each flow the next one
abbrev pub tasks : List ℕ → ℕ → List StepTask
tasks row zero = []
tasks row (suc step) = tasks row step ++ tasks_at step row

-- a worker did these steps of flows, in order
pub record Equips (worker : ℕ) (tasks : List StepTask) (old new : KnownLog) : Type 0 where
  pub outcomes : List StepOutcome
  pub all : length outcomes ≡ length tasks
  pub logs : Logs old new (equipped worker tasks outcomes)
