-- The parts of a round are dealt to the workers' orders one flow after another.
use Rattle.std.specs.Prelude.{◌≡◌, ◌≢◌, ◌<◌, ℕ, ◌+◌, ◌%◌, suc, ◌==◌, Bool, true, false, Some}
use Rattle.std.specs.Prelude.{List, [], ◌∷◌, ◌++◌, length, map, take, drop, slice_get, refl}
use Rattle.std.specs.List.{All, filter, enumerate_from}
use Rattle.std.proofs.Common.{arith, ap, sym, ◌∙◌, subst, set, cond, append-nil, inl, inr}
use Rattle.std.proofs.lemmas.Bool.Decides.{eqb_tells}
use Rattle.std.proofs.Math.Seq.{take-length, drop-length}
use Rattle.std.proofs.lemmas.List.{length-map, map-append}
use Rattle.std.proofs.lemmas.List.Elements.{All-append, filter-append}
use Rattle.std.proofs.lemmas.Option.{slice_get_within, same_Some}
use Rattle.std.proofs.Math.Nat.{mod-lt}
use Rattle.circular_buffer.proofs.Places.{slice_get-set_same, slice_get-set_other}
use Rattle.ccp_base.specs.declared.ack.Ack.{Ack}
use Rattle.shared_rounds.specs.Orders.{FlowPart, OrderState, with_flow_part, is_done_by, parts_of_worker, order_of, IsDealtBefore, DealsOne}

enumerate-last : {X : Type 0} (n : ℕ) (xs : List X) (x : X) → enumerate_from n (xs ++ x ∷ []) ≡ enumerate_from n xs ++ (n + length xs, x) ∷ []
enumerate-last n [] x =
    let here : n ≡ n + 0 = omega arith in
    ap (λ (k : ℕ). (k, x) ∷ []) here
enumerate-last n (y ∷ ys) x =
    let here : n + 1 + length ys ≡ n + suc (length ys) = omega arith in
    ap (λ rest. (n, y) ∷ rest) (enumerate-last (n + 1) ys x ∙ ap (λ (k : ℕ). enumerate_from (n + 1) ys ++ (k, x) ∷ []) here)

-- one more flow may be one more part
parts-last : (workers worker : ℕ) (lists : List (List Ack)) (acks : List Ack)
    → parts_of_worker workers worker (lists ++ acks ∷ [])
    ≡ parts_of_worker workers worker lists ++ filter (is_done_by workers worker) ((length lists, acks) ∷ [])
parts-last workers worker lists acks =
    let here : 0 + length lists ≡ length lists = omega arith in
    ap (filter (is_done_by workers worker)) (enumerate-last 0 lists acks ∙ ap (λ (n : ℕ). enumerate_from 0 lists ++ (n, acks) ∷ []) here)
    ∙ filter-append (is_done_by workers worker) (enumerate_from 0 lists) ((length lists, acks) ∷ [])

no-part : (workers worker : ℕ) (part : FlowPart) → is_done_by workers worker part ≡ false → filter (is_done_by workers worker) (part ∷ []) ≡ []
no-part workers worker part isnt = ap (λ (b : Bool). cond b (part ∷ []) []) isnt

a-part : (workers worker : ℕ) (part : FlowPart) → is_done_by workers worker part ≡ true → filter (is_done_by workers worker) (part ∷ []) ≡ part ∷ []
a-part workers worker part is = ap (λ (b : Bool). cond b (part ∷ []) []) is

abbrev with-parts : ℕ → ℕ → ℕ → List FlowPart → OrderState
with-parts workers worker round parts = record { worker = worker; workers = workers; round = round; parts = parts }

-- a flow that isn't the worker's, or that has no acknowledgement, leaves the worker's order
order-same : (workers worker round : ℕ) (lists : List (List Ack)) (acks : List Ack) → is_done_by workers worker (length lists, acks) ≡ false
    → order_of workers worker round lists ≡ order_of workers worker round (lists ++ acks ∷ [])
order-same workers worker round lists acks isnt =
    ap (with-parts workers worker round)
    (sym (parts-last workers worker lists acks
    ∙ ap (λ (more : List FlowPart). parts_of_worker workers worker lists ++ more) (no-part workers worker (length lists, acks) isnt)
    ∙ append-nil (parts_of_worker workers worker lists)))

-- and else is one more part
order-longer : (workers worker round : ℕ) (lists : List (List Ack)) (acks : List Ack) → is_done_by workers worker (length lists, acks) ≡ true
    → with_flow_part (length lists, acks) (order_of workers worker round lists) ≡ order_of workers worker round (lists ++ acks ∷ [])
order-longer workers worker round lists acks is =
    ap (with-parts workers worker round)
    (sym (parts-last workers worker lists acks
    ∙ ap (λ (more : List FlowPart). parts_of_worker workers worker lists ++ more) (a-part workers worker (length lists, acks) is)))

pub deals-none : (workers round number : ℕ) (acks : List Ack) (orders : List OrderState) → length acks ≡ 0 → DealsOne workers round (number, acks) orders orders
deals-none workers round number [] orders none lists is dealt worker less =
    dealt worker less ∙ ap (λ (order : OrderState). Some order) (order-same workers worker round lists [] refl)
deals-none workers round number (ack ∷ rest) orders none lists is dealt worker less = absurd (omega (arith, none))

-- its worker's order is there, and it is that worker's
pub worker-there : (workers round number : ℕ) (orders : List OrderState) → 0 < workers → IsDealtBefore workers round number orders
    → (worker : ℕ) → worker ≡ number % workers → worker < length orders
worker-there workers round number orders some before worker is =
    let less : number % workers < workers = mod-lt number some in
    let within : worker < workers = omega (arith, is, less) in
    slice_get_within orders worker (order_of workers worker round before.0) (before.2 worker within)

pub worker-own : (workers round number : ℕ) (orders : List OrderState) → 0 < workers → IsDealtBefore workers round number orders
    → (worker : ℕ) (order : OrderState) → worker ≡ number % workers → slice_get orders worker ≡ Some order → number % order.workers ≡ order.worker
worker-own workers round number orders some before worker order is at =
    let less : number % workers < workers = mod-lt number some in
    let within : worker < workers = omega (arith, is, less) in
    let same : order_of workers worker round before.0 ≡ order = same_Some (order_of workers worker round before.0) order (sym (before.2 worker within) ∙ at) in
    ap (λ (o : OrderState). number % o.workers) (sym same) ∙ sym is ∙ ap (λ (o : OrderState). o.worker) same

pub worker-round : (workers round number : ℕ) (orders : List OrderState) → 0 < workers → IsDealtBefore workers round number orders
    → (worker : ℕ) (order : OrderState) → worker ≡ number % workers → slice_get orders worker ≡ Some order → round ≡ order.round
worker-round workers round number orders some before worker order is at =
    let less : number % workers < workers = mod-lt number some in
    let within : worker < workers = omega (arith, is, less) in
    ap (λ (o : OrderState). o.round) (same_Some (order_of workers worker round before.0) order (sym (before.2 worker within) ∙ at))

pub deals-part : (workers round number : ℕ) (acks : List Ack) (orders : List OrderState) (order new : OrderState) (at : ℕ)
    → 0 < length acks → at ≡ number % workers → slice_get orders at ≡ Some order → new ≡ with_flow_part (number, acks) order
    → DealsOne workers round (number, acks) orders (set orders at new)
deals-part workers round number [] orders order new at some is there made lists same dealt worker less = absurd (omega (arith, some))
deals-part workers round number (ack ∷ rest) orders order new at some is there made lists same dealt worker less =
    elim (eqb_tells (number % workers) worker) as (λ _. slice_get (set orders at new) worker ≡ Some (order_of workers worker round (lists ++ (ack ∷ rest) ∷ []))) [
      | inl own ↦
          (let here : at ≡ worker = is ∙ own.1 in
          let was : order_of workers worker round lists ≡ order =
          same_Some (order_of workers worker round lists) order (sym (dealt worker less) ∙ ap (slice_get orders) (sym here) ∙ there) in
          let mine : is_done_by workers worker (length lists, ack ∷ rest) ≡ true = ap (λ (n : ℕ). n % workers == worker) same ∙ own.0 in
          ap (slice_get (set orders at new)) (sym here)
          ∙ slice_get-set_same orders at new (slice_get_within orders at order there)
          ∙ ap (λ (o : OrderState). Some o)
          (made ∙ ap (λ (o : OrderState). with_flow_part (number, ack ∷ rest) o) (sym was)
          ∙ ap (λ (n : ℕ). with_flow_part (n, ack ∷ rest) (order_of workers worker round lists)) (sym same)
          ∙ order-longer workers worker round lists (ack ∷ rest) mine))
      | inr others ↦
          (let apart : worker ≢ at = λ e. others.1 (sym is ∙ sym e) in
          let other : is_done_by workers worker (length lists, ack ∷ rest) ≡ false = ap (λ (n : ℕ). n % workers == worker) same ∙ others.0 in
          slice_get-set_other orders at worker new apart
          ∙ dealt worker less
          ∙ ap (λ (o : OrderState). Some o) (order-same workers worker round lists (ack ∷ rest) other))
    ]

-- the first of the orders have no part yet
abbrev pub AreOpen : ℕ → ℕ → ℕ → List OrderState → Type 0
AreOpen workers round count orders = (worker : ℕ) → worker < count → slice_get orders worker ≡ Some (order_of workers worker round [])

-- ---- parts that are done

-- what a list is mapped to stays, if a slice of all of it is mapped to the same
pub maps-as-before : {X Y : Type 0} (n : ℕ) (items new : List X) (f : X → Y) → n ≡ length items → map f new ≡ map f items
    → map f (take n (new ++ drop (length new) items)) ≡ map f items
maps-as-before n items new f is same =
    let long : length new ≡ length items = sym (length-map new f) ∙ ap length same ∙ length-map items f in
    let none : drop (length new) items ≡ [] = ap (λ (k : ℕ). drop k items) long ∙ drop-length items in
    let all : new ++ drop (length new) items ≡ new = ap (λ (xs : List _). new ++ xs) none ∙ append-nil new in
    let front : take n (new ++ drop (length new) items) ≡ new =
    ap (λ (xs : List _). take n xs) all ∙ ap (λ (k : ℕ). take k new) (is ∙ sym long) ∙ take-length new in
    ap (map f) front ∙ same

-- ---- parts that are a worker's own

-- one part more
own-more : {X Y : Type 0} (P : Y → Type 0) (f : X → Y) (b : Bool) (old : List X) (part : X) → All P (map f old) → All P (map f (part ∷ []))
    → All P (map f (cond b (old ++ part ∷ []) old))
own-more P f true old part own one = subst (All P) (sym (map-append f old (part ∷ []))) (All-append P (map f old) (map f (part ∷ [])) own one)
own-more P f false old part own one = own

-- a part was put at the end of a list, or nothing was changed
pub own-pushed : {X Y : Type 0} (P : Y → Type 0) (f : X → Y) (b : Bool) (old new : List X) (part : X) → new ≡ cond b (old ++ part ∷ []) old
    → All P (map f old) → All P (map f (part ∷ [])) → All P (map f new)
own-pushed P f b old new part is own one = subst (λ (parts : List _). All P (map f parts)) (sym is) (own-more P f b old part own one)
