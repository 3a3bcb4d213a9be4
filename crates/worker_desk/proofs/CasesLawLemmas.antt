-- The law of a campaign's workers: which cases are run, in which order, and when the gate is passed.
use Rattle.std.proofs.Common.{◌≡◌, ◌==◌, ℕ, zero, suc, ◌+◌, ◌*◌, ◌-◌, ◌%◌, ◌<◌, Bool, true, false, cond, ◌&&◌, nat_lt, Some, None, List, [], ◌∷◌, ◌++◌, length, slice_get, refl, sym, ap, ◌∙◌, add-one, arith}
use Rattle.std.specs.Prelude.{Option}
use Rattle.std.proofs.Math.Bool.{and-true}
use Rattle.std.proofs.lemmas.Bool.{and_parts, and_right}
use Rattle.std.proofs.lemmas.Bool.Decides.{nat_tests}
use Rattle.std.proofs.lemmas.Nat.{mod_below}
use Rattle.ccp_base.specs.declared.gate.Point.TheVariants.{InCase, AfterCase}
use Rattle.worker_desk.specs.declared.event.CaseEvent.{CaseEvent}
use Rattle.worker_desk.specs.declared.event.CaseEvent.TheVariants.{Passed, Ran}
use Rattle.worker_desk.specs.ServingLaw.{is_of}
use Rattle.worker_desk.specs.Cases.{cases_of_worker, run_events}
use Rattle.worker_desk.specs.CasesLaw.{runs, times, is_rising, events_below, WorkerRunsOnce, WorkersRunOnce}
use Rattle.worker_desk.proofs.ServingLawLemmas.{times-append, times-flows}

-- ---- which cases are run

runs-run : (worker : ℕ) (cases : List ℕ) → runs (run_events worker cases) ≡ cases
runs-run worker [] = refl
runs-run worker (case ∷ cases) = ap (λ (rest : List ℕ). case ∷ rest) (runs-run worker cases)

runs-append : (first next : List CaseEvent) → runs (first ++ next) ≡ runs first ++ runs next
runs-append [] next = refl
runs-append (Passed worker point case ∷ first) next = runs-append first next
runs-append (Ran case ∷ first) next = ap (λ (rest : List ℕ). case ∷ rest) (runs-append first next)

once : (worker workers cases case : ℕ)
    → times case (runs (run_events worker (cases_of_worker worker workers cases))) ≡ cond (is_of worker workers cases case) 1 0
once worker workers cases case =
    ap (times case) (runs-run worker (cases_of_worker worker workers cases))
    ∙ times-flows worker workers cases case

-- ---- in which order

abbrev are_below : ℕ → List ℕ → Bool
are_below bound [] = true
are_below bound (number ∷ rest) = nat_lt number bound && are_below bound rest

and-then : (a b c : Bool) → (a && b) ≡ true → (b ≡ true → c ≡ true) → (a && c) ≡ true
and-then true b c both then = then both
and-then false b c both then = both

and-more : (a a' b c : Bool) → (a && b) ≡ true → (a ≡ true → a' ≡ true) → (b ≡ true → c ≡ true) → (a' && c) ≡ true
and-more true a' b c both more then = ap (λ (x : Bool). x && c) (more refl) ∙ then both
and-more false a' b c both more then = absurd (let wrong : false ≡ true = both in (cc))

below-with : (bound : ℕ) (here : Bool) (numbers : List ℕ) → are_below bound numbers ≡ true
    → are_below (suc bound) (numbers ++ cond here (bound ∷ []) []) ≡ true
below-with bound true [] below =
    let less : nat_lt bound (suc bound) ≡ true = grind (arith, nat_tests) in
    ap (λ (x : Bool). x && true) less
below-with bound false [] below = refl
below-with bound here (number ∷ rest) below =
    and-more (nat_lt number bound) (nat_lt number (suc bound)) (are_below bound rest)
    (are_below (suc bound) (rest ++ cond here (bound ∷ []) [])) below
    (λ less. grind (arith, nat_tests)) (λ others. below-with bound here rest others)

below-all : (worker workers cases : ℕ) → are_below cases (cases_of_worker worker workers cases) ≡ true
below-all worker workers zero = refl
below-all worker workers (suc case) =
    below-with case ((case % workers) == worker) (cases_of_worker worker workers case) (below-all worker workers case)

rising-with : (last : ℕ) (here : Bool) (numbers : List ℕ) → is_rising numbers ≡ true → are_below last numbers ≡ true
    → is_rising (numbers ++ cond here (last ∷ []) []) ≡ true
rising-with last true [] rising below = refl
rising-with last false [] rising below = refl
rising-with last true (number ∷ []) rising below = below
rising-with last false (number ∷ []) rising below = refl
rising-with last here (number ∷ next ∷ rest) rising below =
    and-then (nat_lt number next) (is_rising (next ∷ rest)) (is_rising (next ∷ (rest ++ cond here (last ∷ []) []))) rising
    (λ others. rising-with last here (next ∷ rest) others
    (and_parts (nat_lt number last) (are_below last (next ∷ rest)) below).1)

rising-all : (worker workers cases : ℕ) → is_rising (cases_of_worker worker workers cases) ≡ true
rising-all worker workers zero = refl
rising-all worker workers (suc case) =
    rising-with case ((case % workers) == worker) (cases_of_worker worker workers case)
    (rising-all worker workers case) (below-all worker workers case)

-- ---- between which points of the gate

-- the case of a run
abbrev case_in : Option CaseEvent → ℕ
case_in None = 0
case_in (Some (Passed worker point case)) = 0
case_in (Some (Ran case)) = case

no-first : (worker : ℕ) (cases : List ℕ) (case : ℕ) → slice_get (run_events worker cases) 0 ≡ Some (Ran case) → ⊥
no-first worker [] case at = let wrong : None ≡ Some (Ran case) = at in (cc)
no-first worker (head ∷ cases) case at = let wrong : Some (Passed worker InCase head) ≡ Some (Ran case) = at in (cc)

before-run : (worker : ℕ) (cases : List ℕ) (place case : ℕ) → slice_get (run_events worker cases) (suc place) ≡ Some (Ran case)
    → slice_get (run_events worker cases) place ≡ Some (Passed worker InCase case)
before-run worker [] place case at = absurd (let wrong : None ≡ Some (Ran case) = at in (cc))
before-run worker (head ∷ cases) zero case at =
    ap (λ (o : Option CaseEvent). Some (Passed worker InCase (case_in o))) at
before-run worker (head ∷ cases) (suc zero) case at =
    absurd (let wrong : Some (Passed worker AfterCase head) ≡ Some (Ran case) = at in (cc))
before-run worker (head ∷ cases) (suc (suc zero)) case at = absurd (no-first worker cases case at)
before-run worker (head ∷ cases) (suc (suc (suc place))) case at = before-run worker cases place case at

entered : (worker : ℕ) (cases : List ℕ) (place case : ℕ) → slice_get (run_events worker cases) place ≡ Some (Ran case)
    → slice_get (run_events worker cases) (place - 1) ≡ Some (Passed worker InCase case)
entered worker cases zero case at = absurd (no-first worker cases case at)
entered worker cases (suc place) case at =
    let before : suc place - 1 ≡ place = omega arith in
    ap (slice_get (run_events worker cases)) before ∙ before-run worker cases place case at

after-run : (worker : ℕ) (cases : List ℕ) (place case : ℕ) → slice_get (run_events worker cases) place ≡ Some (Ran case)
    → slice_get (run_events worker cases) (suc place) ≡ Some (Passed worker AfterCase case)
after-run worker [] place case at = absurd (let wrong : None ≡ Some (Ran case) = at in (cc))
after-run worker (head ∷ cases) zero case at =
    absurd (let wrong : Some (Passed worker InCase head) ≡ Some (Ran case) = at in (cc))
after-run worker (head ∷ cases) (suc zero) case at =
    ap (λ (o : Option CaseEvent). Some (Passed worker AfterCase (case_in o))) at
after-run worker (head ∷ cases) (suc (suc zero)) case at =
    absurd (let wrong : Some (Passed worker AfterCase head) ≡ Some (Ran case) = at in (cc))
after-run worker (head ∷ cases) (suc (suc (suc place))) case at = after-run worker cases place case at

left : (worker : ℕ) (cases : List ℕ) (place case : ℕ) → slice_get (run_events worker cases) place ≡ Some (Ran case)
    → slice_get (run_events worker cases) (place + 1) ≡ Some (Passed worker AfterCase case)
left worker cases place case at =
    ap (slice_get (run_events worker cases)) (add-one place) ∙ after-run worker cases place case at

three-each : (worker : ℕ) (cases : List ℕ) → length (run_events worker cases) ≡ 3 * length cases
three-each worker [] = refl
three-each worker (case ∷ cases) = omega (arith, three-each worker cases)

-- ---- the laws

pub worker-law : WorkerRunsOnce
worker-law worker workers cases =
    let own : List ℕ = cases_of_worker worker workers cases in
    let same : runs (run_events worker own) ≡ own = runs-run worker own in
    record {
      once = λ case. once worker workers cases case;
      in_order = ap is_rising same ∙ rising-all worker workers cases;
      entered = λ place case at. entered worker own place case at;
      left = λ place case at. left worker own place case at;
      nothing_else = three-each worker own ∙ ap (λ (numbers : List ℕ). 3 * length numbers) (sym same);
    }

one-more : (number last : ℕ) (below is after : Bool) → nat_lt number last ≡ below → (number == last) ≡ is → nat_lt number (suc last) ≡ after
    → cond below 1 0 + cond is 1 0 ≡ cond after 1 0
one-more number last true false true less same more = refl
one-more number last false true true less same more = refl
one-more number last false false false less same more = refl
one-more number last true true after less same more = absurd (grind (arith, nat_tests))
one-more number last true false false less same more = absurd (grind (arith, nat_tests))
one-more number last false true false less same more = absurd (grind (arith, nat_tests))
one-more number last false false true less same more = absurd (grind (arith, nat_tests))

one-worker-more : (there : Bool) (number last : ℕ)
    → cond (there && nat_lt number last) 1 0 + cond (there && (number == last)) 1 0 ≡ cond (there && nat_lt number (suc last)) 1 0
one-worker-more true number last =
    one-more number last (nat_lt number last) (number == last) (nat_lt number (suc last)) refl refl refl
one-worker-more false number last = refl

times-below : (workers cases case worker : ℕ)
    → times case (runs (events_below workers cases worker)) ≡ cond (nat_lt case cases && nat_lt (case % workers) worker) 1 0
times-below workers cases case zero =
    let none : nat_lt (case % workers) 0 ≡ false = grind (arith, nat_tests) in
    sym (ap (λ (x : Bool). cond x 1 0) (ap (λ (x : Bool). nat_lt case cases && x) none ∙ and_right (nat_lt case cases) false refl))
times-below workers cases case (suc worker) =
    let first : List CaseEvent = events_below workers cases worker in
    let next : List CaseEvent = run_events worker (cases_of_worker worker workers cases) in
    ap (times case) (runs-append first next)
    ∙ times-append case (runs first) (runs next)
    ∙ ap (λ (n : ℕ). n + times case (runs next)) (times-below workers cases case worker)
    ∙ ap (λ (n : ℕ). cond (nat_lt case cases && nat_lt (case % workers) worker) 1 0 + n) (once worker workers cases case)
    ∙ one-worker-more (nat_lt case cases) (case % workers) worker

pub workers-law : WorkersRunOnce
workers-law workers cases case some =
    let own : nat_lt (case % workers) workers ≡ true =
    (let below : case % workers < workers = mod_below case workers (omega (arith, some)) in (grind (arith, nat_tests))) in
    times-below workers cases case workers
    ∙ ap (λ (x : Bool). cond x 1 0) (ap (λ (x : Bool). nat_lt case cases && x) own ∙ and-true (nat_lt case cases))
