-- The law of a datapath worker: which flows are asked, in which order, and which nudges are sent.
use Rattle.std.proofs.Common.{◌≡◌, ◌==◌, ℕ, zero, suc, ◌+◌, ◌%◌, ◌≤◌, Bool, true, false, cond, ◌&&◌, nat_lt, None, List, [], ◌∷◌, ◌++◌, length, refl, sym, ap, ◌∙◌, subst, arith}
use Rattle.std.proofs.lemmas.Bool.{eq-eqb}
use Rattle.std.proofs.lemmas.Bool.Decides.{nat_tests}
use Rattle.worker_desk.specs.declared.event.Heard.{Heard}
use Rattle.worker_desk.specs.declared.event.Heard.TheVariants.{Quiet, Reported, Faulted, Ended}
use Rattle.worker_desk.specs.declared.event.Event.{Event}
use Rattle.worker_desk.specs.Serving.{turn, again, served, left, flows_of_worker}
use Rattle.worker_desk.specs.CasesLaw.{times}
use Rattle.worker_desk.specs.ServingLaw.{Ask, asks, answers_to_flow, has_ended, is_empty, ends_once, nudges_well, is_of, ServingLaw}

-- ---- the asks of a row of flows

abbrev walk : List ℕ → List Heard → List Ask
walk row [] = []
walk [] (answer ∷ answers) = []
walk (flow ∷ row) (answer ∷ answers) = record { flow = flow; answer = answer } ∷ walk (row ++ again flow answer) answers

asks-turn : (worker flow : ℕ) (answer : Heard) (rest : List Event) → asks (turn worker flow answer ++ rest) ≡ record { flow = flow; answer = answer } ∷ asks rest
asks-turn worker flow Quiet rest = refl
asks-turn worker flow Reported rest = refl
asks-turn worker flow Faulted rest = refl
asks-turn worker flow Ended rest = refl

asks-served : (worker : ℕ) (row : List ℕ) (answers : List Heard) → asks (served worker row answers) ≡ walk row answers
asks-served worker row [] = refl
asks-served worker [] (answer ∷ answers) = refl
asks-served worker (flow ∷ row) (answer ∷ answers) =
    let ask : Ask = record { flow = flow; answer = answer } in
    asks-turn worker flow answer (served worker (row ++ again flow answer) answers)
    ∙ ap (λ (rest : List Ask). ask ∷ rest) (asks-served worker (row ++ again flow answer) answers)

-- ---- how often a flow stands in a row

abbrev pub one : Bool → ℕ
one is = cond is 1 0

pub times-append : (flow : ℕ) (row more : List ℕ) → times flow (row ++ more) ≡ times flow row + times flow more
times-append flow [] more = omega arith
times-append flow (head ∷ row) more = omega (arith, times-append flow row more)

-- how often a flow stands in a row after an answer, by whether the answer is its own
abbrev times_again : Heard → Bool → ℕ
times_again Quiet own = one own
times_again Reported own = one own
times_again Faulted own = one own
times_again Ended own = 0

times-again : (flow head : ℕ) (answer : Heard) → times flow (again head answer) ≡ times_again answer (head == flow)
times-again flow head Quiet = omega arith
times-again flow head Reported = omega arith
times-again flow head Faulted = omega arith
times-again flow head Ended = refl

times-after : (flow head : ℕ) (row : List ℕ) (answer : Heard) → times flow (row ++ again head answer) ≡ times flow row + times_again answer (head == flow)
times-after flow head row answer = omega (arith, times-append flow row (again head answer), times-again flow head answer)

again-other : (answer : Heard) → times_again answer false ≡ 0
again-other Quiet = refl
again-other Reported = refl
again-other Faulted = refl
again-other Ended = refl

again-most : (answer : Heard) (own : Bool) → times_again answer own ≤ one own
again-most Quiet own = omega arith
again-most Reported own = omega arith
again-most Faulted own = omega arith
again-most Ended own = omega arith

-- ---- a flow that stands nowhere in the row isn't asked

own-head : (answer : Heard) (own : Bool) (others : ℕ) (rest : List Heard) → one own + others ≡ 0
    → (others + times_again answer own ≡ 0 → rest ≡ []) → cond own (answer ∷ []) [] ++ rest ≡ []
own-head answer true others rest none then = absurd (omega (arith, none))
own-head answer false others rest none then = then (omega (arith, none, again-other answer))

own-row : (flow : ℕ) (row : List ℕ) (answers : List Heard) → times flow row ≡ 0 → answers_to_flow flow (walk row answers) ≡ []
own-row flow row [] none = refl
own-row flow [] (answer ∷ answers) none = refl
own-row flow (head ∷ row) (answer ∷ answers) none =
    own-head answer (head == flow) (times flow row) (answers_to_flow flow (walk (row ++ again head answer) answers)) none
    (λ after. own-row flow (row ++ again head answer) answers (times-after flow head row answer ∙ after))

-- ---- a flow that stands there is asked until it answered Ended

each-head : (answer : Heard) (own : Bool) (others : ℕ) (rest : List Heard) → one own + others ≡ 1
    → (others + times_again answer own ≡ 1 → ends_once rest ≡ true) → (others + times_again answer own ≡ 0 → rest ≡ [])
    → ends_once (cond own (answer ∷ []) [] ++ rest) ≡ true
each-head Quiet true others rest once then none = then (omega (arith, once))
each-head Reported true others rest once then none = then (omega (arith, once))
each-head Faulted true others rest once then none = then (omega (arith, once))
each-head Ended true others rest once then none = ap is_empty (none (omega (arith, once)))
each-head answer false others rest once then none = then (omega (arith, once, again-other answer))

each-row : (flow : ℕ) (row : List ℕ) (answers : List Heard) → times flow row ≡ 1 → left row answers ≡ []
    → ends_once (answers_to_flow flow (walk row answers)) ≡ true
each-row flow row [] once ended = absurd (omega (arith, once, ap (times flow) ended))
each-row flow [] (answer ∷ answers) once ended = absurd (omega (arith, once))
each-row flow (head ∷ row) (answer ∷ answers) once ended =
    each-head answer (head == flow) (times flow row) (answers_to_flow flow (walk (row ++ again head answer) answers)) once
    (λ after. each-row flow (row ++ again head answer) answers (times-after flow head row answer ∙ after) ended)
    (λ after. own-row flow (row ++ again head answer) answers (times-after flow head row answer ∙ after))

-- ---- whether a flow stands before another one in a row

abbrev before : ℕ → ℕ → List ℕ → Bool
before flow other [] = false
before flow other (head ∷ row) = cond (head == other) false (cond (head == flow) true (before flow other row))

none-head : (own others : Bool) (flows rest : ℕ) (later : Bool) → one own + flows ≡ 0 → one others + rest ≡ 1
    → (flows ≡ 0 → rest ≡ 1 → later ≡ false) → cond others false (cond own true later) ≡ false
none-head own true flows rest later none once then = refl
none-head true false flows rest later none once then = absurd (omega (arith, none))
none-head false false flows rest later none once then = then (omega (arith, none)) (omega (arith, once))

-- a flow that isn't in the row doesn't stand before one that is, whatever follows
before-none : (flow other : ℕ) (row more : List ℕ) → times flow row ≡ 0 → times other row ≡ 1 → before flow other (row ++ more) ≡ false
before-none flow other [] more none once = absurd (omega (arith, once))
before-none flow other (head ∷ row) more none once =
    none-head (head == flow) (head == other) (times flow row) (times other row) (before flow other (row ++ more)) none once
    (before-none flow other row more)

both-false : (own others later : Bool) → own ≡ false → others ≡ false → cond others false (cond own true later) ≡ later
both-false false false later is other = refl
both-false true others later is other = absurd (let wrong : true ≡ false = is in (cc))
both-false false true later is other = absurd (let wrong : true ≡ false = other in (cc))

before-again : (flow other head : ℕ) (answer : Heard) → (head == flow) ≡ false → (head == other) ≡ false → before flow other (again head answer) ≡ false
before-again flow other head Quiet is others = both-false (head == flow) (head == other) false is others
before-again flow other head Reported is others = both-false (head == flow) (head == other) false is others
before-again flow other head Faulted is others = both-false (head == flow) (head == other) false is others
before-again flow other head Ended is others = refl

-- a third flow at the end changes nothing of it
before-same : (flow other head : ℕ) (row : List ℕ) (answer : Heard) → (head == flow) ≡ false → (head == other) ≡ false
    → before flow other (row ++ again head answer) ≡ before flow other row
before-same flow other head [] answer is others = before-again flow other head answer is others
before-same flow other head (first ∷ row) answer is others =
    ap (λ (later : Bool). cond (first == other) false (cond (first == flow) true later)) (before-same flow other head row answer is others)

-- ---- while a flow waits no other one is asked twice

cons-head : {X : Type 0} → (x y : X) (xs ys : List X) → x ∷ xs ≡ y ∷ ys → x ≡ y
cons-head x y xs ys same = cc

cons-tail : {X : Type 0} → (x y : X) (xs ys : List X) → x ∷ xs ≡ y ∷ ys → xs ≡ ys
cons-tail x y xs ys same = cc

no-cons : {X : Type 0} → (x : X) (xs : List X) → [] ≡ x ∷ xs → ⊥
no-cons x xs same = cc

pub most-one : (own : Bool) → one own ≤ 1
most-one true = omega arith
most-one false = omega arith

wait-head : (answer : Heard) (own others : Bool) (flows rest : ℕ) (later there : Bool) (own_rest other_rest : List Heard)
    → one others + rest ≡ 1 → one own + flows ≤ 1 → cond others (answer ∷ []) [] ++ other_rest ≡ []
    → (own ≡ false → others ≡ false → later ≡ there) → (flows ≡ 0 → rest ≡ 1 → later ≡ false)
    → (rest + times_again answer others ≡ 1 → flows + times_again answer own ≤ 1 → other_rest ≡ [] → length own_rest ≤ one later)
    → length (cond own (answer ∷ []) [] ++ own_rest) ≤ one (cond others false (cond own true there))
wait-head answer own true flows rest later there own_rest other_rest once most quiet same none then =
    absurd (no-cons answer other_rest (sym quiet))
wait-head answer true false flows rest later there own_rest other_rest once most quiet same none then =
    let last : later ≡ false = none (omega (arith, most)) (omega (arith, once)) in
    let few : length own_rest ≤ one later =
    then (omega (arith, once, again-other answer)) (omega (arith, most, again-most answer true)) quiet in
    omega (arith, few, ap one last)
wait-head answer false false flows rest later there own_rest other_rest once most quiet same none then =
    let few : length own_rest ≤ one later =
    then (omega (arith, once, again-other answer)) (omega (arith, most, again-other answer)) quiet in
    omega (arith, few, ap one (same refl refl))

wait-row : (flow other : ℕ) (row : List ℕ) (answers : List Heard) (middle after : List Ask) → times other row ≡ 1 → times flow row ≤ 1
    → walk row answers ≡ middle ++ after → answers_to_flow other middle ≡ [] → length (answers_to_flow flow middle) ≤ one (before flow other row)
wait-row flow other row answers [] after once most is quiet = omega arith
wait-row flow other row [] (ask ∷ middle) after once most is quiet = absurd (no-cons ask (middle ++ after) is)
wait-row flow other [] (answer ∷ answers) (ask ∷ middle) after once most is quiet = absurd (no-cons ask (middle ++ after) is)
wait-row flow other (head ∷ row) (answer ∷ answers) (ask ∷ middle) after once most is quiet =
    let here : Ask = record { flow = head; answer = answer } in
    let row' : List ℕ = row ++ again head answer in
    let same : here ≡ ask = cons-head here ask (walk row' answers) (middle ++ after) is in
    let rest : walk row' answers ≡ middle ++ after = cons-tail here ask (walk row' answers) (middle ++ after) is in
    let quiet' : answers_to_flow other (here ∷ middle) ≡ [] = ap (λ (x : Ask). answers_to_flow other (x ∷ middle)) same ∙ quiet in
    subst (λ (x : Ask). length (answers_to_flow flow (x ∷ middle)) ≤ one (before flow other (head ∷ row))) same
    (wait-head answer (head == flow) (head == other) (times flow row) (times other row) (before flow other row') (before flow other row)
    (answers_to_flow flow middle) (answers_to_flow other middle) once most quiet'
    (before-same flow other head row answer) (before-none flow other row (again head answer))
    (λ once' most' quiet''. wait-row flow other row' answers middle after (times-after other head row answer ∙ once')
    (omega (arith, times-after flow head row answer, most')) rest quiet''))

goes-on : (answer : Heard) (own : Bool) (others : ℕ) (rest : List Heard) → one own + others ≡ 1
    → has_ended (cond own (answer ∷ []) [] ++ rest) ≡ false → (others + times_again answer own ≡ 1) × (has_ended rest ≡ false)
goes-on Quiet true others rest once going = (omega (arith, once), going)
goes-on Reported true others rest once going = (omega (arith, once), going)
goes-on Faulted true others rest once going = (omega (arith, once), going)
goes-on Ended true others rest once going = absurd (let wrong : true ≡ false = going in (cc))
goes-on answer false others rest once going = (omega (arith, once, again-other answer), going)

turns-row : (flow other : ℕ) (row : List ℕ) (answers : List Heard) (first middle after : List Ask) → times other row ≡ 1 → times flow row ≤ 1
    → walk row answers ≡ first ++ (middle ++ after) → has_ended (answers_to_flow other first) ≡ false → answers_to_flow other middle ≡ []
    → length (answers_to_flow flow middle) ≤ 1
turns-row flow other row answers [] middle after once most is going quiet =
    omega (arith, wait-row flow other row answers middle after once most is quiet, most-one (before flow other row))
turns-row flow other row [] (ask ∷ first) middle after once most is going quiet = absurd (no-cons ask (first ++ (middle ++ after)) is)
turns-row flow other [] (answer ∷ answers) (ask ∷ first) middle after once most is going quiet =
    absurd (no-cons ask (first ++ (middle ++ after)) is)
turns-row flow other (head ∷ row) (answer ∷ answers) (ask ∷ first) middle after once most is going quiet =
    let here : Ask = record { flow = head; answer = answer } in
    let row' : List ℕ = row ++ again head answer in
    let all : List Ask = first ++ (middle ++ after) in
    let same : here ≡ ask = cons-head here ask (walk row' answers) all is in
    let rest : walk row' answers ≡ all = cons-tail here ask (walk row' answers) all is in
    let going' : has_ended (answers_to_flow other (here ∷ first)) ≡ false =
    ap (λ (x : Ask). has_ended (answers_to_flow other (x ∷ first))) same ∙ going in
    let on = goes-on answer (head == other) (times other row) (answers_to_flow other first) once going' in
    turns-row flow other row' answers first middle after (times-after other head row answer ∙ on.0)
    (omega (arith, times-after flow head row answer, most, again-most answer (head == flow))) rest on.1 quiet

-- ---- nudges

nudges-turn : (worker flow : ℕ) (answer : Heard) (rest : List Event) → nudges_well None (turn worker flow answer ++ rest) ≡ nudges_well None rest
nudges-turn worker flow Quiet rest = refl
nudges-turn worker flow Reported rest = ap (λ (due : Bool). due && nudges_well None rest) (eq-eqb flow flow refl)
nudges-turn worker flow Faulted rest = ap (λ (due : Bool). due && nudges_well None rest) (eq-eqb flow flow refl)
nudges-turn worker flow Ended rest = refl

nudges-served : (worker : ℕ) (row : List ℕ) (answers : List Heard) → nudges_well None (served worker row answers) ≡ true
nudges-served worker row [] = refl
nudges-served worker [] (answer ∷ answers) = refl
nudges-served worker (flow ∷ row) (answer ∷ answers) =
    nudges-turn worker flow answer (served worker (row ++ again flow answer) answers)
    ∙ nudges-served worker (row ++ again flow answer) answers

-- ---- the flows of a worker

after-same : (below after is own : Bool) → below ≡ false → after ≡ true → is ≡ true → one (below && own) + one (own && is) ≡ one (after && own)
after-same false true true true not_below below same = refl
after-same false true true false not_below below same = refl
after-same true after is own not_below below same = absurd (let wrong : true ≡ false = not_below in (cc))
after-same false false is own not_below below same = absurd (let wrong : false ≡ true = below in (cc))
after-same false true false own not_below below same = absurd (let wrong : false ≡ true = same in (cc))

after-other : (below own here is : Bool) → is ≡ false → one (below && own) + one (here && is) ≡ one (below && own)
after-other below own true false other = omega arith
after-other below own false false other = omega arith
after-other below own here true other = absurd (let wrong : true ≡ false = other in (cc))

times-one : (flow number : ℕ) (here : Bool) → times flow (cond here (number ∷ []) []) ≡ one (here && (number == flow))
times-one flow number true = omega arith
times-one flow number false = refl

pub below-other : (flow number : ℕ) (below : Bool) → nat_lt flow number ≡ below → (number == flow) ≡ false → nat_lt flow (suc number) ≡ below
below-other flow number true is other = grind (arith, nat_tests)
below-other flow number false is other = grind (arith, nat_tests)

one-more : (worker datapaths number flow : ℕ) (is : Bool) → (number == flow) ≡ is
    → one (is_of worker datapaths number flow) + one (((number % datapaths) == worker) && (number == flow)) ≡ one (is_of worker datapaths (suc number) flow)
one-more worker datapaths number flow true is =
    let same : number ≡ flow = grind (arith, nat_tests) in
    subst (λ (k : ℕ). one (is_of worker datapaths number k) + one (((number % datapaths) == worker) && (number == k)) ≡ one (is_of worker datapaths (suc number) k)) same
    (after-same (nat_lt number number) (nat_lt number (suc number)) (number == number) ((number % datapaths) == worker)
    (grind (arith, nat_tests)) (grind (arith, nat_tests)) (eq-eqb number number refl))
one-more worker datapaths number flow false is =
    after-other (nat_lt flow number) ((flow % datapaths) == worker) ((number % datapaths) == worker) (number == flow) is
    ∙ ap (λ (below : Bool). one (below && ((flow % datapaths) == worker))) (sym (below-other flow number (nat_lt flow number) refl is))

pub times-flows : (worker datapaths flows flow : ℕ) → times flow (flows_of_worker worker datapaths flows) ≡ one (is_of worker datapaths flows flow)
times-flows worker datapaths zero flow =
    let none : nat_lt flow 0 ≡ false = grind (arith, nat_tests) in
    ap (λ (below : Bool). one (below && ((flow % datapaths) == worker))) (sym none)
times-flows worker datapaths (suc number) flow =
    let front : List ℕ = flows_of_worker worker datapaths number in
    let here : Bool = (number % datapaths) == worker in
    times-append flow front (cond here (number ∷ []) [])
    ∙ ap (λ (n : ℕ). n + times flow (cond here (number ∷ []) [])) (times-flows worker datapaths number flow)
    ∙ ap (λ (n : ℕ). one (is_of worker datapaths number flow) + n) (times-one flow number here)
    ∙ one-more worker datapaths number flow (number == flow) refl

-- ---- the law

pub serving-law : ServingLaw
serving-law worker datapaths flows answers ended =
    let row : List ℕ = flows_of_worker worker datapaths flows in
    let same : asks (served worker row answers) ≡ walk row answers = asks-served worker row answers in
    record {
      each = λ flow is.
          ap (λ (all : List Ask). ends_once (answers_to_flow flow all)) same
          ∙ each-row flow row answers (times-flows worker datapaths flows flow ∙ ap one is) ended;
      own = λ flow is.
          ap (λ (all : List Ask). answers_to_flow flow all) same
          ∙ own-row flow row answers (times-flows worker datapaths flows flow ∙ ap one is);
      in_turn = λ flow other first middle after is split going quiet.
          turns-row flow other row answers first middle after (times-flows worker datapaths flows other ∙ ap one is)
          (omega (arith, times-flows worker datapaths flows flow, most-one (is_of worker datapaths flows flow)))
          (sym same ∙ split) going quiet;
      nudges = nudges-served worker row answers;
    }
