-- What an installer did, step by step and flow by flow.
use Rattle.std.proofs.Common.{◌≡◌, ℕ, ◌+◌, true, false, List, [], ◌∷◌, ◌++◌, length, length-append, refl, sym, ap, ◌∙◌, subst, append_assoc, add-one, take, slice_index, ◌<◌, arith}
use Rattle.std.proofs.lemmas.List.{map-append}
use Rattle.std.proofs.Math.Seq.{take-suc}
use Rattle.ccp_base.specs.declared.gate.Point.TheVariants.{AfterTake, AfterSettle}
use Rattle.worker_desk.specs.declared.event.Event.{Event}
use Rattle.worker_desk.specs.declared.event.Event.TheVariants.{Passed, Built}
use Rattle.worker_desk.specs.Logs.{KnownLog, Logs}
use Rattle.worker_desk.specs.Equipping.{StepOutcome, unbuilt, late, installed, changed, installing, changing, equipping, StepTask, tasks, tasks_at, equipped, Equips}
use Rattle.worker_desk.proofs.ServingLemmas.{Logs-append}

-- ---- tasks in turn

equipped-append : (worker : ℕ) (first next : List StepTask) (outcomes more : List StepOutcome) → length outcomes ≡ length first
    → equipped worker (first ++ next) (outcomes ++ more) ≡ equipped worker first outcomes ++ equipped worker next more
equipped-append worker [] next [] more same = refl
equipped-append worker [] next (outcome ∷ outcomes) more same = absurd (omega (arith, same))
equipped-append worker (task ∷ first) next [] more same = absurd (omega (arith, same))
equipped-append worker (task ∷ first) next (outcome ∷ outcomes) more same =
    let here : List Event = equipping worker task.flow task.step outcome in
    ap (λ (rest : List Event). here ++ rest) (equipped-append worker first next outcomes more (omega (arith, same)))
    ∙ sym (append_assoc here (equipped worker first outcomes) (equipped worker next more))

pub equips-append : (worker : ℕ) (first next : List StepTask) (old middle new : KnownLog) → Equips worker first old middle
    → Equips worker next middle new → Equips worker (first ++ next) old new
equips-append worker first next old middle new before after =
    record {
      outcomes = before.outcomes ++ after.outcomes;
      all = omega (arith, before.all, after.all, length-append before.outcomes after.outcomes, length-append first next);
      logs = subst (λ (events : List Event). Logs old new events)
          (sym (equipped-append worker first next before.outcomes after.outcomes before.all))
          (Logs-append old middle new (equipped worker first before.outcomes) (equipped worker next after.outcomes) before.logs after.logs);
    }

-- ---- a task

one-task : (worker flow step : ℕ) (outcome : StepOutcome)
    → equipped worker (record { flow = flow; step = step } ∷ []) (outcome ∷ []) ≡ equipping worker flow step outcome
one-task worker flow step unbuilt = refl
one-task worker flow step late = refl
one-task worker flow step installed = refl
one-task worker flow step changed = refl

module _ (worker flow step : ℕ) where
  equips-one : (outcome : StepOutcome) (old new : KnownLog) → Logs old new (equipping worker flow step outcome)
      → Equips worker (record { flow = flow; step = step } ∷ []) old new
  equips-one outcome old new logs =
      record {
        outcomes = outcome ∷ [];
        all = refl;
        logs = subst (λ (events : List Event). Logs old new events) (sym (one-task worker flow step outcome)) logs;
      }

  -- no entry was built
  pub unbuilt-then : (old new : KnownLog) → Logs old new (Built flow step false ∷ []) → Equips worker (record { flow = flow; step = step } ∷ []) old new
  unbuilt-then old new logs = equips-one unbuilt old new logs

  -- the entry wasn't the next one
  pub late-then : (entry : ℕ) (old built new : KnownLog) → entry ≡ step → Logs old built (Built flow step true ∷ []) → Logs built new (installing flow entry false)
      → Equips worker (record { flow = flow; step = step } ∷ []) old new
  late-then entry old built new same first next =
      equips-one late old new
      (Logs-append old built new (Built flow step true ∷ []) (installing flow step false) first
      (subst (λ (n : ℕ). Logs built new (installing flow n false)) same next))

  -- it was installed, and there was nothing to change to
  pub installed-then : (entry : ℕ) (old built put passed new : KnownLog) → entry ≡ step → Logs old built (Built flow step true ∷ [])
      → Logs built put (installing flow entry true) → Logs put passed (Passed worker AfterTake flow ∷ []) → Logs passed new (changing flow false)
      → Equips worker (record { flow = flow; step = step } ∷ []) old new
  installed-then entry old built put passed new same first next then last =
      equips-one installed old new
      (Logs-append old built new (Built flow step true ∷ []) _ first
      (Logs-append built put new (installing flow step true) _ (subst (λ (n : ℕ). Logs built put (installing flow n true)) same next)
      (Logs-append put passed new (Passed worker AfterTake flow ∷ []) (changing flow false) then last)))

  -- it was installed, and the flow changed
  pub changed-then : (entry : ℕ) (old built put passed turned new : KnownLog) → entry ≡ step → Logs old built (Built flow step true ∷ [])
      → Logs built put (installing flow entry true) → Logs put passed (Passed worker AfterTake flow ∷ []) → Logs passed turned (changing flow true)
      → Logs turned new (Passed worker AfterSettle flow ∷ []) → Equips worker (record { flow = flow; step = step } ∷ []) old new
  changed-then entry old built put passed turned new same first next then turn last =
      equips-one changed old new
      (Logs-append old built new (Built flow step true ∷ []) _ first
      (Logs-append built put new (installing flow step true) _ (subst (λ (n : ℕ). Logs built put (installing flow n true)) same next)
      (Logs-append put passed new (Passed worker AfterTake flow ∷ []) _ then
      (Logs-append passed turned new (changing flow true) (Passed worker AfterSettle flow ∷ []) turn last))))

-- ---- a row of flows, and the steps in turn

-- the step of the flow at a place comes after those of the flows before it
pub place-then : (worker step place : ℕ) (row : List ℕ) (old middle new : KnownLog) → place < length row
    → Equips worker (tasks_at step (take place row)) old middle
    → Equips worker (record { flow = slice_index row place; step = step } ∷ []) middle new
    → Equips worker (tasks_at step (take (place + 1) row)) old new
place-then worker step place row old middle new within before after =
    let task : ℕ → StepTask = λ flow. record { flow = flow; step = step } in
    let front : take (place + 1) row ≡ take place row ++ slice_index row place ∷ [] =
    ap (λ (n : ℕ). take n row) (add-one place) ∙ take-suc row place 0 within in
    let same : tasks_at step (take (place + 1) row) ≡ tasks_at step (take place row) ++ task (slice_index row place) ∷ [] =
    ap (tasks_at step) front ∙ map-append task (take place row) (slice_index row place ∷ []) in
    subst (λ (all : List StepTask). Equips worker all old new) (sym same)
    (equips-append worker (tasks_at step (take place row)) (task (slice_index row place) ∷ []) old middle new before after)

-- a step of each flow comes after the steps before it
pub step-then : (worker step : ℕ) (row all : List ℕ) (old middle new : KnownLog) → all ≡ row
    → Equips worker (tasks row step) old middle → Equips worker (tasks_at step all) middle new → Equips worker (tasks row (step + 1)) old new
step-then worker step row all old middle new same before after =
    subst (λ (n : ℕ). Equips worker (tasks row n) old new) (sym (add-one step))
    (equips-append worker (tasks row step) (tasks_at step row) old middle new before
    (subst (λ (flows : List ℕ). Equips worker (tasks_at step flows) middle new) same after))
