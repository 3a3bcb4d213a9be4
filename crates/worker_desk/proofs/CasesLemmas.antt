-- What a worker of a campaign did before a case, and so what it did in all.
use Rattle.std.proofs.Common.{◌≡◌, ◌==◌, ℕ, zero, suc, ◌+◌, ◌-◌, ◌%◌, ◌<◌, ◌≤◌, Bool, true, false, cond, nat_lt, min, None, Some, List, [], ◌∷◌, ◌++◌, length, drop, slice_get, refl, sym, ap, ◌∙◌, subst, append_assoc, append-nil, arith}
use Rattle.std.specs.Prelude.{option_to_list}
use Rattle.std.proofs.lemmas.Bool.Decides.{nat_tests}
use Rattle.std.proofs.lemmas.Nat.{mod_below}
use Rattle.std.proofs.Math.Nat.{mod-eq_of_lt, add-mod_right, mod-add-mod}
use Rattle.ccp_base.specs.declared.gate.Point.TheVariants.{InCase, AfterCase}
use Rattle.worker_desk.specs.declared.event.CaseEvent.{CaseEvent}
use Rattle.worker_desk.specs.declared.event.CaseEvent.TheVariants.{Passed, Ran}
use Rattle.worker_desk.specs.Logs.{Logs}
use Rattle.worker_desk.specs.EveryNth.{every}
use Rattle.worker_desk.specs.Cases.{CaseLog, cases_of_worker, begun_case, ended_case, run_events, Stops}
use Rattle.worker_desk.proofs.ServingLemmas.{Logs-append}
use Rattle.worker_desk.proofs.EveryLemmas.{every-drop, made-then}

-- ---- logs

pub logs-none : (log : CaseLog) → Logs log log []
logs-none None = refl
logs-none (Some done) = ap Some (sym (append-nil done))

run-append : (worker : ℕ) (first next : List ℕ) → run_events worker (first ++ next) ≡ run_events worker first ++ run_events worker next
run-append worker [] next = refl
run-append worker (case ∷ first) next =
    ap (λ (rest : List CaseEvent). Passed worker InCase case ∷ Ran case ∷ Passed worker AfterCase case ∷ rest) (run-append worker first next)

-- ---- the cases of a worker below a number

-- a number and one that isn't a whole turn later have different remainders
after-turn : (r j w : ℕ) (below : Bool) → nat_lt (r + j) w ≡ below → r < w → 0 < j → j < w → ((r + j) % w == r) ≡ false
after-turn r j w true is small some short =
    let within : r + j < w = grind (arith, nat_tests) in
    ap (λ (n : ℕ). n == r) (mod-eq_of_lt within) ∙ (grind (arith, nat_tests))
after-turn r j w false is small some short =
    let over : w ≤ r + j = grind (arith, nat_tests) in
    let less : (r + j) - w < w = omega (arith, small, short) in
    let split : r + j ≡ ((r + j) - w) + w = omega (arith, over) in
    ap (λ (n : ℕ). (n % w) == r) split
    ∙ ap (λ (n : ℕ). n == r) (add-mod_right ((r + j) - w) w ∙ mod-eq_of_lt less)
    ∙ (grind (arith, nat_tests))

other-remainder : (worker workers case j : ℕ) → case % workers ≡ worker → 0 < j → j < workers → (((j + case) % workers) == worker) ≡ false
other-remainder worker workers case j at some short =
    let turned : j + case ≡ case + j = omega arith in
    ap (λ (n : ℕ). (n % workers) == worker) turned
    ∙ ap (λ (n : ℕ). n == worker) (sym (mod-add-mod case workers j))
    ∙ ap (λ (n : ℕ). ((case % workers + j) % workers) == n) (sym at)
    ∙ after-turn (case % workers) j workers (nat_lt (case % workers + j) workers) refl
    (mod_below case workers (omega (arith, some, short))) some short

same-remainder : (worker workers case : ℕ) → case % workers ≡ worker → ((case % workers) == worker) ≡ true
same-remainder worker workers case at = grind (arith, nat_tests)

-- a case's number with `more` added
abbrev later : ℕ → ℕ → ℕ
later zero case = case
later (suc more) case = suc (later more case)

later-is : (more case : ℕ) → later more case ≡ more + case
later-is zero case = omega arith
later-is (suc more) case = omega (arith, later-is more case)

-- a case of the worker, and then none before the next turn
next-of-worker : (worker workers case more : ℕ) → case % workers ≡ worker → more < workers
    → cases_of_worker worker workers (suc (later more case)) ≡ cases_of_worker worker workers case ++ case ∷ []
next-of-worker worker workers case zero at short =
    ap (λ (here : Bool). cases_of_worker worker workers case ++ cond here (case ∷ []) []) (same-remainder worker workers case at)
next-of-worker worker workers case (suc more) at short =
    ap (λ (here : Bool). cases_of_worker worker workers (suc (later more case)) ++ cond here (suc (later more case) ∷ []) [])
    (ap (λ (n : ℕ). (n % workers) == worker) (later-is (suc more) case)
    ∙ other-remainder worker workers case (suc more) at (omega arith) short)
    ∙ append-nil (cases_of_worker worker workers (suc (later more case)))
    ∙ next-of-worker worker workers case more at (omega (arith, short))

none-before : (worker workers number : ℕ) → number ≤ worker → worker < workers → cases_of_worker worker workers number ≡ []
none-before worker workers zero before within = refl
none-before worker workers (suc number) before within =
    let same : number % workers ≡ number = mod-eq_of_lt (omega (arith, before, within)) in
    let other : (number == worker) ≡ false = grind (arith, nat_tests) in
    ap (λ (here : Bool). cases_of_worker worker workers number ++ cond here (number ∷ []) [])
    (ap (λ (n : ℕ). n == worker) same ∙ other)
    ∙ append-nil (cases_of_worker worker workers number)
    ∙ none-before worker workers number (omega (arith, before)) within

-- a case of the worker among its cases
record IsAmong (worker workers case cases : ℕ) : Type 0 where
  left : List ℕ
  split : cases_of_worker worker workers cases ≡ cases_of_worker worker workers case ++ case ∷ left

among : (worker workers case more : ℕ) → case % workers ≡ worker → IsAmong worker workers case (suc (later more case))
among worker workers case zero at =
    record {
      left = [];
      split = ap (λ (here : Bool). cases_of_worker worker workers case ++ cond here (case ∷ []) []) (same-remainder worker workers case at);
    }
among worker workers case (suc more) at =
    let before = among worker workers case more at in
    let last : List ℕ = cond ((suc (later more case) % workers) == worker) (suc (later more case) ∷ []) [] in
    record {
      left = before.left ++ last;
      split =
          ap (λ (front : List ℕ). front ++ last) before.split
          ∙ append_assoc (cases_of_worker worker workers case) (case ∷ before.left) last;
    }

-- ---- the worker's way

-- a worker came to a number: it ran its cases below it to their ends
pub record HasCome {X : Type 0} (worker workers : ℕ) (results : List X) (case : ℕ)
    (old now : CaseLog) (before items : List X) : Type 0 where
  pub at : case % workers ≡ worker
  pub logs : Logs old now (run_events worker (cases_of_worker worker workers (min case (length results))))
  pub made : items ++ every workers 0 (drop case results) ≡ before ++ every workers worker results

pub come-first : {X : Type 0} (worker workers : ℕ) (results : List X) (log : CaseLog) (made : List X) → worker < workers
    → HasCome worker workers results worker log log made made
come-first worker workers results log made within =
    record {
      at = mod-eq_of_lt within;
      logs =
          subst (λ (cases : List ℕ). Logs log log (run_events worker cases))
          (sym (none-before worker workers (min worker (length results)) (omega arith) within)) (logs-none log);
      made = ap (λ (rest : List _). made ++ rest) (sym (every-drop workers worker results));
    }

pub come-next : {X : Type 0} (worker workers : ℕ) (results : List X) (case next : ℕ) (old now then : CaseLog)
    (before made made' : List X) → 0 < workers → case < length results → next ≡ case + workers
    → HasCome worker workers results case old now before made
    → Logs now then (ended_case worker case) → made' ≡ made ++ option_to_list (slice_get results case)
    → HasCome worker workers results next old then before made'
come-next worker workers results case next old now then before made made' some within is come logs put =
    let count = length results in
    let more : ℕ = (min (case + workers) count - case) - 1 in
    let short : more < workers = omega (arith, some, within) in
    let here : min case count ≡ case = omega (arith, within) in
    let far : min (case + workers) count ≡ suc (later more case) = omega (arith, some, within, later-is more case) in
    let cases : cases_of_worker worker workers (min (case + workers) count) ≡ cases_of_worker worker workers case ++ case ∷ [] =
    ap (cases_of_worker worker workers) far ∙ next-of-worker worker workers case more come.at short in
    let done : Logs old now (run_events worker (cases_of_worker worker workers case)) =
    subst (λ (n : ℕ). Logs old now (run_events worker (cases_of_worker worker workers n))) here come.logs in
    let events : run_events worker (cases_of_worker worker workers case) ++ ended_case worker case ≡ run_events worker (cases_of_worker worker workers (min (case + workers) count)) =
    sym (run-append worker (cases_of_worker worker workers case) (case ∷ [])) ∙ ap (run_events worker) (sym cases) in
    subst (λ (n : ℕ). HasCome worker workers results n old then before made') (sym is) (record {
      at = add-mod_right case workers ∙ come.at;
      logs =
          subst (Logs old then) events
          (Logs-append old now then (run_events worker (cases_of_worker worker workers case)) (ended_case worker case) done logs);
      made = made-then workers case results made made' (before ++ every workers worker results) some put come.made;
    })

pub come-stops : {X : Type 0} (worker workers : ℕ) (results : List X) (case : ℕ) (old now then : CaseLog) (before made : List X)
    → case < length results → HasCome worker workers results case old now before made → Logs now then (begun_case worker case)
    → Stops worker (cases_of_worker worker workers (length results)) old then
come-stops worker workers results case old now then before made within come logs =
    let more : ℕ = (length results - case) - 1 in
    let here : min case (length results) ≡ case = omega (arith, within) in
    let far : suc (later more case) ≡ length results = omega (arith, within, later-is more case) in
    let amid = among worker workers case more come.at in
    record {
      done = cases_of_worker worker workers case;
      case = case;
      rest = amid.left;
      split = ap (cases_of_worker worker workers) (sym far) ∙ amid.split;
      logs =
          Logs-append old now then (run_events worker (cases_of_worker worker workers case)) (begun_case worker case)
          (subst (λ (n : ℕ). Logs old now (run_events worker (cases_of_worker worker workers n))) here come.logs) logs;
    }
