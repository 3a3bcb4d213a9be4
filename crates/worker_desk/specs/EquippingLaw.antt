-- What holds of the events of an installer, whatever came of the texts.
use Rattle.std.specs.Prelude.{◌≡◌, ◌==◌, ℕ, ◌+◌, ◌<◌, ◌≤◌, nat_lt, Bool, true, false, cond, ◌&&◌, List, [], ◌∷◌, length}
use Rattle.ccp_base.specs.Limits.{most_steps}
use Rattle.worker_desk.specs.declared.event.Event.{Event}
use Rattle.worker_desk.specs.declared.event.Event.TheVariants as event
use Rattle.worker_desk.specs.Serving.{flows_of_worker}
use Rattle.worker_desk.specs.ServingLaw.{is_of}
use Rattle.worker_desk.specs.Equipping.{StepOutcome, StepTask, tasks, equipped}

-- the texts that were built among events, in order
abbrev pub builds : List Event → List StepTask
builds [] = []
builds (event.Built flow step built ∷ events) = record { flow = flow; step = step } ∷ builds events
builds (event.Passed worker point flow ∷ events) = builds events
builds (event.Locked flow ∷ events) = builds events
builds (event.Unlocked flow ∷ events) = builds events
builds (event.Acked worker flow answer ∷ events) = builds events
builds (event.Nudged flow ∷ events) = builds events
builds (event.Received flow ∷ events) = builds events
builds (event.Took flow ticket ∷ events) = builds events
builds (event.Settled flow ticket ∷ events) = builds events
builds (event.Installed flow step installed ∷ events) = builds events
builds (event.Changed flow changed ∷ events) = builds events

-- how often a step of a flow was built
abbrev pub times_built : ℕ → ℕ → List StepTask → ℕ
times_built flow step [] = 0
times_built flow step (task ∷ rest) = cond ((task.flow == flow) && (task.step == step)) 1 0 + times_built flow step rest

-- no step is below this number, nor below a step before it
abbrev pub never_falls : ℕ → List StepTask → Bool
never_falls least [] = true
never_falls least (task ∷ rest) = cond (nat_lt task.step least) false (never_falls task.step rest)

pub record IsEquipped (first workers flows : ℕ) (events : List Event) : Type 0 where
  -- each step of each flow of the worker is built once
  pub each : (flow step : ℕ) → is_of first workers flows flow ≡ true → step < most_steps
      → times_built flow step (builds events) ≡ 1
  -- no step of another flow is built
  pub own : (flow step : ℕ) → is_of first workers flows flow ≡ false → times_built flow step (builds events) ≡ 0
  -- no later step is built
  pub few : (flow step : ℕ) → most_steps ≤ step → times_built flow step (builds events) ≡ 0
  -- after a step of a flow no earlier step is built, of this flow or another one
  pub in_order : never_falls 0 (builds events) ≡ true

-- what an installer did that went through the steps of its flows, whatever came of each
abbrev pub EquippingLaw : Type 0
EquippingLaw = (worker first workers flows : ℕ) (outcomes : List StepOutcome)
    → length outcomes ≡ length (tasks (flows_of_worker first workers flows) most_steps)
    → IsEquipped first workers flows (equipped worker (tasks (flows_of_worker first workers flows) most_steps) outcomes)
