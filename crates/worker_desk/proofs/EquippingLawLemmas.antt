-- The law of an installer: which texts are built, and in which order.
use Rattle.std.proofs.Common.{◌≡◌, ◌==◌, ℕ, zero, suc, ◌+◌, ◌≤◌, nat_lt, Bool, true, false, cond, ◌&&◌, List, [], ◌∷◌, ◌++◌, length, refl, sym, ap, ◌∙◌, append_assoc, append-nil, arith}
use Rattle.std.proofs.lemmas.Bool.Decides.{nat_tests}
use Rattle.ccp_base.specs.Limits.{most_steps}
use Rattle.worker_desk.specs.declared.event.Event.{Event}
use Rattle.worker_desk.specs.Serving.{flows_of_worker}
use Rattle.worker_desk.specs.ServingLaw.{is_of}
use Rattle.worker_desk.specs.Equipping.{StepOutcome, unbuilt, late, installed, changed, equipping, equipped, StepTask, tasks, tasks_at}
use Rattle.worker_desk.specs.CasesLaw.{times}
use Rattle.worker_desk.specs.EquippingLaw.{builds, times_built, never_falls, EquippingLaw}
use Rattle.worker_desk.proofs.ServingLawLemmas.{one, most-one, times-flows, below-other}

-- ---- the texts that are built are the tasks

builds-task : (worker flow step : ℕ) (outcome : StepOutcome) (rest : List Event)
    → builds (equipping worker flow step outcome ++ rest) ≡ record { flow = flow; step = step } ∷ builds rest
builds-task worker flow step unbuilt rest = refl
builds-task worker flow step late rest = refl
builds-task worker flow step installed rest = refl
builds-task worker flow step changed rest = refl

builds-all : (worker : ℕ) (all : List StepTask) (outcomes : List StepOutcome) → length outcomes ≡ length all → builds (equipped worker all outcomes) ≡ all
builds-all worker [] [] same = refl
builds-all worker [] (outcome ∷ outcomes) same = refl
builds-all worker (task ∷ all) [] same = absurd (omega (arith, same))
builds-all worker (task ∷ all) (outcome ∷ outcomes) same =
    builds-task worker task.flow task.step outcome (equipped worker all outcomes)
    ∙ ap (λ (rest : List StepTask). task ∷ rest) (builds-all worker all outcomes (omega (arith, same)))

-- ---- how often each stands among the tasks

times-append : (flow step : ℕ) (xs ys : List StepTask) → times_built flow step (xs ++ ys) ≡ times_built flow step xs + times_built flow step ys
times-append flow step [] ys = omega arith
times-append flow step (task ∷ xs) ys = omega (arith, times-append flow step xs ys)

at-head : (own here : Bool) (others rest : ℕ) → rest ≡ cond here others 0 → cond (own && here) 1 0 + rest ≡ cond here (one own + others) 0
at-head true true others rest is = omega (arith, is)
at-head true false others rest is = omega (arith, is)
at-head false true others rest is = omega (arith, is)
at-head false false others rest is = omega (arith, is)

none-at : (here : Bool) → zero ≡ cond here zero zero
none-at true = refl
none-at false = refl

times-at : (flow step at : ℕ) (row : List ℕ) → times_built flow step (tasks_at at row) ≡ cond (at == step) (times flow row) 0
times-at flow step at [] = none-at (at == step)
times-at flow step at (head ∷ row) =
    at-head (head == flow) (at == step) (times flow row) (times_built flow step (tasks_at at row)) (times-at flow step at row)

with-one : (below here after : Bool) (all : ℕ) → one below + one here ≡ one after → cond below all 0 + cond here all 0 ≡ cond after all 0
with-one true true after all is = absurd (omega (arith, is, most-one after))
with-one true false true all is = omega arith
with-one true false false all is = absurd (omega (arith, is))
with-one false true true all is = omega arith
with-one false true false all is = absurd (omega (arith, is))
with-one false false true all is = absurd (omega (arith, is))
with-one false false false all is = omega arith

step-more : (number step : ℕ) (is : Bool) → (number == step) ≡ is → one (nat_lt step number) + one is ≡ one (nat_lt step (suc number))
step-more number step true is =
    let here : nat_lt step number ≡ false = grind (arith, nat_tests) in
    let next : nat_lt step (suc number) ≡ true = grind (arith, nat_tests) in
    omega (arith, ap one here, ap one next)
step-more number step false is = omega (arith, ap one (below-other step number (nat_lt step number) refl is))

times-tasks : (flow step : ℕ) (row : List ℕ) (steps : ℕ) → times_built flow step (tasks row steps) ≡ cond (nat_lt step steps) (times flow row) 0
times-tasks flow step row zero =
    let none : nat_lt step 0 ≡ false = grind (arith, nat_tests) in
    ap (λ (below : Bool). cond below (times flow row) 0) (sym none)
times-tasks flow step row (suc number) =
    times-append flow step (tasks row number) (tasks_at number row)
    ∙ ap (λ (n : ℕ). n + times_built flow step (tasks_at number row)) (times-tasks flow step row number)
    ∙ ap (λ (n : ℕ). cond (nat_lt step number) (times flow row) 0 + n) (times-at flow step number row)
    ∙ with-one (nat_lt step number) (number == step) (nat_lt step (suc number)) (times flow row) (step-more number step (number == step) refl)

-- ---- steps never fall

at-rise : (least at : ℕ) (row : List ℕ) (rest : List StepTask) → least ≤ at → ((low : ℕ) → low ≤ at → never_falls low rest ≡ true)
    → never_falls least (tasks_at at row ++ rest) ≡ true
at-rise least at [] rest low then = then least low
at-rise least at (flow ∷ row) rest low then =
    let above : nat_lt at least ≡ false = grind (arith, nat_tests) in
    ap (λ (below : Bool). cond below false (never_falls at (tasks_at at row ++ rest))) above
    ∙ at-rise at at row rest (omega arith) then

tasks-rise : (row : List ℕ) (steps : ℕ) (rest : List StepTask) → ((low : ℕ) → low ≤ steps → never_falls low rest ≡ true)
    → never_falls 0 (tasks row steps ++ rest) ≡ true
tasks-rise row zero rest then = then 0 (omega arith)
tasks-rise row (suc number) rest then =
    ap (never_falls 0) (append_assoc (tasks row number) (tasks_at number row) rest)
    ∙ tasks-rise row number (tasks_at number row ++ rest)
    (λ low most. at-rise low number row rest most (λ least few. then least (omega (arith, few))))

-- ---- the law

pub equipping-law : EquippingLaw
equipping-law worker first workers flows outcomes all =
    let row : List ℕ = flows_of_worker first workers flows in
    let same : builds (equipped worker (tasks row most_steps) outcomes) ≡ tasks row most_steps = builds-all worker (tasks row most_steps) outcomes all in
    let times-all : (flow step : ℕ) → times_built flow step (builds (equipped worker (tasks row most_steps) outcomes))
    ≡ cond (nat_lt step most_steps) (one (is_of first workers flows flow)) 0 =
    λ flow step. ap (times_built flow step) same ∙ times-tasks flow step row most_steps
    ∙ ap (λ (n : ℕ). cond (nat_lt step most_steps) n 0) (times-flows first workers flows flow) in
    record {
      each = λ flow step is few.
          let below : nat_lt step most_steps ≡ true = grind (arith, nat_tests) in
          times-all flow step ∙ ap (λ (b : Bool). cond b (one (is_of first workers flows flow)) 0) below ∙ ap one is;
      own = λ flow step is.
          times-all flow step ∙ ap (λ (n : ℕ). cond (nat_lt step most_steps) n 0) (ap one is) ∙ sym (none-at (nat_lt step most_steps));
      few = λ flow step most.
          let below : nat_lt step most_steps ≡ false = grind (arith, nat_tests) in
          times-all flow step ∙ ap (λ (b : Bool). cond b (one (is_of first workers flows flow)) 0) below;
      in_order = ap (never_falls 0) (same ∙ sym (append-nil (tasks row most_steps))) ∙ tasks-rise row most_steps [] (λ low few. refl);
    }
