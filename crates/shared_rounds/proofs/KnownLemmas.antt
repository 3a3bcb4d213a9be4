-- What is known of flows after their parts of a round, whichever thread did these.
use Rattle.std.specs.Prelude.{◌≡◌, ◌≢◌, ◌<◌, ◌≤◌, ℕ, zero, suc, ◌+◌, ◌%◌, ◌==◌, Bool, true, false, Some, List, [], ◌∷◌, ◌++◌, length, map, slice_get, slice_index_or, option_map, refl}
use Rattle.std.specs.List.{All, filter, enumerate_from}
use Rattle.std.proofs.Common.{arith, ap, sym, ◌∙◌, subst, set, cond, length-set, length-append, inl, inr}
use Rattle.std.proofs.lemmas.Bool.{eq-eqb}
use Rattle.std.proofs.lemmas.List.{map-append, length-map}
use Rattle.std.proofs.lemmas.Bool.Decides.{eqb_tells, leb_tells}
use Rattle.std.proofs.lemmas.Option.{slice_get_within, slice_get-map, slice_get-get_or, same_Some}
use Rattle.std.proofs.Math.Nat.{mod-lt}
use Rattle.circular_buffer.proofs.Places.{slice_get-set_same, slice_get-set_other, slice_get-some, slice_get-last, slice_get-append_left}
use Rattle.ccp_base.specs.declared.ack.Ack.{Ack}
use Rattle.shared_rounds.specs.Orders.{FlowPart, OrderState, is_done_by, parts_of_worker, order_of, AreDealt, AreIdle}
use Rattle.shared_rounds.specs.KnownFlows.{FlowRound, IsKnown, AreKnown, AreKnownFrom, StayKnown, AreRested, ArePartsKnown, flow_rounds, with_rounds, with_rounds_back, IsDone, AreDone, AreDoneOrOut}

pub mapped-at : {A B : Type 0} (f : A → B) (xs : List A) (i : ℕ) (x : A) → slice_get xs i ≡ Some x → slice_get (map f xs) i ≡ Some (f x)
mapped-at f xs i x at = slice_get-map f xs i ∙ ap (option_map f) at

-- what is read in the place of a flow that is known
pub place-known : {A : Type 0} (f : A → FlowRound) (items : List A) (known : List FlowRound) (number round : ℕ) (old : A) → map f items ≡ known
    → old ≡ slice_index_or items number old → IsKnown known number round → f old ≡ (number, round)
place-known f items known number round old all is at =
    let there_ : slice_get (map f items) number ≡ Some (number, round) = ap (λ (k : List FlowRound). slice_get k number) all ∙ at in
    let long = slice_get_within (map f items) number (number, round) there_ in
    let less : number < length items = omega (arith, long, length-map items f) in
    let item : slice_get items number ≡ Some (slice_index_or items number old) = slice_get-get_or items number old less in
    ap f is ∙ same_Some (f (slice_index_or items number old)) (number, round) (sym (mapped-at f items number (slice_index_or items number old) item) ∙ there_)

pub known-pushed : (known : List FlowRound) (flow : FlowRound) (longer : List FlowRound) → AreKnown known 0 → flow ≡ (length known, 0) → longer ≡ known ++ flow ∷ []
    → AreKnown longer 0
known-pushed known flow longer are is pushed =
    subst (λ (k : List FlowRound). AreKnown k 0) (sym pushed)
    (λ number less.
    let long = length-append known (flow ∷ []) in
    elim (eqb_tells number (length known)) as (λ _. IsKnown (known ++ flow ∷ []) number 0) [
      | inl same ↦
          ap (slice_get (known ++ flow ∷ [])) same.1 ∙ slice_get-last known flow (length known) refl ∙ ap (λ (f : FlowRound). Some f) is
          ∙ ap (λ (n : ℕ). Some (n, 0)) (sym same.1)
      | inr apart ↦
          (let other = apart.1 in
          let within : number < length known = omega (arith, less, long, other) in
          slice_get-append_left known (flow ∷ []) number within ∙ are number within)
    ])

-- ---- one flow

-- what is known after this many rounds stays known if one flow becomes known after as many
pub set-stays : (known : List FlowRound) (number round k : ℕ) → IsKnown known k round → IsKnown (set known number (number, round)) k round
set-stays known number round k at =
    elim (eqb_tells k number) as (λ _. IsKnown (set known number (number, round)) k round) [
      | inl same ↦
          (let within : k < length known = slice_get_within known k (k, round) at in
          let here = same.1 in
          let less : number < length known = omega (arith, within, here) in
          ap (slice_get (set known number (number, round))) here ∙ slice_get-set_same known number (number, round) less
          ∙ ap (λ (n : ℕ). Some (n, round)) (sym here))
      | inr apart ↦ slice_get-set_other known number k (number, round) apart.1 ∙ at
    ]

-- what is known of the others stays in any case
pub set-others : (known : List FlowRound) (number k : ℕ) (flow : FlowRound) (round : ℕ) → k ≢ number → IsKnown known k round → IsKnown (set known number flow) k round
set-others known number k flow round apart at = slice_get-set_other known number k flow apart ∙ at

-- ---- parts

module _ (round : ℕ) where
  -- their flows are among the first ones
  abbrev AreIn : ℕ → List FlowPart → Type 0
  AreIn count [] = Unit {0}
  AreIn count (part ∷ rest) = (part.0 < count) × AreIn count rest

  pub stay-parts : (parts : List FlowPart) (old new : List FlowRound) → StayKnown (round + 1) old new → ArePartsKnown round parts old → ArePartsKnown round parts new
  stay-parts [] old new stay known = tt
  stay-parts (part ∷ rest) old new stay known = (stay part.0 known.0, stay-parts rest old new stay known.1)

  with-length : (parts : List FlowPart) (known : List FlowRound) → length (with_rounds (flow_rounds round parts) known) ≡ length known
  with-length [] known = refl
  with-length (part ∷ rest) known =
      with-length rest (set known part.0 (part.0, round + 1)) ∙ length-set known part.0 (part.0, round + 1)

  with-stay : (parts : List FlowPart) (known : List FlowRound) → StayKnown (round + 1) known (with_rounds (flow_rounds round parts) known)
  with-stay [] known k at = at
  with-stay (part ∷ rest) known k at =
      with-stay rest (set known part.0 (part.0, round + 1)) k (set-stays known part.0 (round + 1) k at)

  with-parts : (parts : List FlowPart) (known : List FlowRound) → AreIn (length known) parts → ArePartsKnown round parts (with_rounds (flow_rounds round parts) known)
  with-parts [] known within = tt
  with-parts (part ∷ rest) known within =
      let next = set known part.0 (part.0, round + 1) in (
        with-stay rest next part.0 (slice_get-set_same known part.0 (part.0, round + 1) within.0),
        with-parts rest next (subst (λ (n : ℕ). AreIn n rest) (sym (length-set known part.0 (part.0, round + 1))) within.1),
      )

  back-length : (parts : List FlowPart) (known : List FlowRound) → length (with_rounds_back (flow_rounds round parts) known) ≡ length known
  back-length [] known = refl
  back-length (part ∷ rest) known =
      length-set (with_rounds_back (flow_rounds round rest) known) part.0 (part.0, round + 1) ∙ back-length rest known

  back-stay : (parts : List FlowPart) (known : List FlowRound) → StayKnown (round + 1) known (with_rounds_back (flow_rounds round parts) known)
  back-stay [] known k at = at
  back-stay (part ∷ rest) known k at =
      set-stays (with_rounds_back (flow_rounds round rest) known) part.0 (round + 1) k (back-stay rest known k at)

  back-parts : (parts : List FlowPart) (known : List FlowRound) → AreIn (length known) parts → ArePartsKnown round parts (with_rounds_back (flow_rounds round parts) known)
  back-parts [] known within = tt
  back-parts (part ∷ rest) known within =
      let later = with_rounds_back (flow_rounds round rest) known in (
        slice_get-set_same later part.0 (part.0, round + 1)
            (let here = within.0 in let same = back-length rest known in omega (arith, here, same)),
        stay-parts rest later (set later part.0 (part.0, round + 1)) (λ k at. set-stays later part.0 (round + 1) k at)
            (back-parts rest known within.1),
      )

  -- ---- the parts of a worker

  module _ (is : FlowPart → Bool) where
    parts-in-where : (b : Bool) (count : ℕ) (part : FlowPart) (rest : List FlowPart) → part.0 < count → AreIn count rest → AreIn count (cond b (part ∷ rest) rest)
    parts-in-where true count part rest less within = (less, within)
    parts-in-where false count part rest less within = within

    parts-in : (n count : ℕ) (lists : List (List Ack)) → n + length lists ≤ count → AreIn count (filter is (enumerate_from n lists))
    parts-in n count [] most = tt
    parts-in n count (list ∷ rest) most =
        parts-in-where (is (n, list)) count (n, list) (filter is (enumerate_from (n + 1) rest)) (omega (arith, most))
        (parts-in (n + 1) count rest (omega (arith, most)))

    first-known : (b : Bool) (part : FlowPart) (rest : List FlowPart) (known : List FlowRound) → b ≡ true → ArePartsKnown round (cond b (part ∷ rest) rest) known
        → IsKnown known part.0 (round + 1)
    first-known true part rest known mine are = are.0
    first-known false part rest known mine are = absurd (let wrong : false ≡ true = mine in (cc))

    rest-known : (b : Bool) (part : FlowPart) (rest : List FlowPart) (known : List FlowRound) → ArePartsKnown round (cond b (part ∷ rest) rest) known
        → ArePartsKnown round rest known
    rest-known true part rest known are = are.1
    rest-known false part rest known are = are

    part-known : (n : ℕ) (lists : List (List Ack)) (i : ℕ) (acks : List Ack) (known : List FlowRound) → slice_get lists i ≡ Some acks → is (n + i, acks) ≡ true
        → ArePartsKnown round (filter is (enumerate_from n lists)) known → IsKnown known (n + i) (round + 1)
    part-known n [] i acks known at mine are = absurd (let wrong = at in (cc))
    part-known n (list ∷ rest) zero acks known at mine are =
        let here : n + 0 ≡ n = omega arith in
        let same : list ≡ acks = (let some : Some list ≡ Some acks = at in (cc)) in
        let mine_ : is (n, list) ≡ true = (λ i. is (sym here i, same i)) ∙ mine in
        subst (λ (k : ℕ). IsKnown known k (round + 1)) (sym here)
        (first-known (is (n, list)) (n, list) (filter is (enumerate_from (n + 1) rest)) known mine_ are)
    part-known n (list ∷ rest) (suc i) acks known at mine are =
        let here : (n + 1) + i ≡ n + suc i = omega arith in
        subst (λ (k : ℕ). IsKnown known k (round + 1)) here
        (part-known (n + 1) rest i acks known at (ap (λ (k : ℕ). is (k, acks)) here ∙ mine)
        (rest-known (is (n, list)) (n, list) (filter is (enumerate_from (n + 1) rest)) known are))

  module _ (workers : ℕ) (lists : List (List Ack)) where
    pub stay-done : (worker : ℕ) (old new : List FlowRound) → StayKnown (round + 1) old new → IsDone workers round lists old worker → IsDone workers round lists new worker
    stay-done worker old new stay done = stay-parts (parts_of_worker workers worker lists) old new stay done

    -- an order was done: its flows are known after the round, and what was known then stays known
    pub record Learns (worker : ℕ) (old new : List FlowRound) : Type 0 where
      pub done : IsDone workers round lists new worker
      pub stay : StayKnown (round + 1) old new
      pub long : length new ≡ length old

    worker-in : (worker : ℕ) (known : List FlowRound) → length lists ≤ length known → AreIn (length known) (parts_of_worker workers worker lists)
    worker-in worker known within = parts-in (is_done_by workers worker) 0 (length known) lists (omega (arith, within))

    -- here
    pub here-learns : (worker : ℕ) (order : OrderState) (old new : List FlowRound) → order ≡ order_of workers worker round lists → length lists ≤ length old
        → new ≡ with_rounds (flow_rounds order.round order.parts) old → Learns worker old new
    here-learns worker order old new is within learned =
        let parts = parts_of_worker workers worker lists in
        let all : new ≡ with_rounds (flow_rounds round parts) old = learned ∙ ap (λ (o : OrderState). with_rounds (flow_rounds o.round o.parts) old) is in
        record {
          done = subst (λ (k : List FlowRound). ArePartsKnown round parts k) (sym all) (with-parts parts old (worker-in worker old within));
          stay = subst (λ (k : List FlowRound). StayKnown (round + 1) old k) (sym all) (with-stay parts old);
          long = ap (λ (k : List FlowRound). length k) all ∙ with-length parts old;
        }

    -- on a thread
    pub back-learns : (worker : ℕ) (old new : List FlowRound) → length lists ≤ length old
        → new ≡ with_rounds_back (flow_rounds round (parts_of_worker workers worker lists)) old → Learns worker old new
    back-learns worker old new within learned =
        let parts = parts_of_worker workers worker lists in
        record {
          done = subst (λ (k : List FlowRound). ArePartsKnown round parts k) (sym learned) (back-parts parts old (worker-in worker old within));
          stay = subst (λ (k : List FlowRound). StayKnown (round + 1) old k) (sym learned) (back-stay parts old);
          long = ap (λ (k : List FlowRound). length k) learned ∙ back-length parts old;
        }

    -- an order without a part is done
    pub idle-done : (worker : ℕ) (order : OrderState) (known : List FlowRound) → order ≡ order_of workers worker round lists → order.parts ≡ []
        → IsDone workers round lists known worker
    idle-done worker order known is none =
        subst (λ (parts : List FlowPart). ArePartsKnown round parts known) (sym none ∙ ap (λ (o : OrderState). o.parts) is) tt

    -- ---- one worker after another

    -- from the last worker to the first one
    pub done-next : (first : ℕ) (old new : List FlowRound) → Learns first old new
        → ((worker : ℕ) → first + 1 ≤ worker → worker < workers → IsDone workers round lists old worker)
        → (worker : ℕ) → first ≤ worker → worker < workers → IsDone workers round lists new worker
    done-next first old new learns done worker from less =
        elim (eqb_tells worker first) as (λ _. IsDone workers round lists new worker) [
          | inl same ↦ subst (λ (w : ℕ). IsDone workers round lists new w) (sym same.1) learns.done
          | inr apart ↦ stay-done worker old new learns.stay (done worker (let other = apart.1 in omega (arith, from, other)) less)
        ]

    -- an order was handed out or done
    pub out-next : (first at : ℕ) (busy : List Bool) (one : Bool) (old new : List FlowRound) → StayKnown (round + 1) old new
        → (one ≡ false → IsDone workers round lists new at)
        → ((worker : ℕ) → first ≤ worker → worker < at → slice_get busy worker ≡ Some false → IsDone workers round lists old worker)
        → (worker : ℕ) → first ≤ worker → worker < at + 1 → slice_get (set busy at one) worker ≡ Some false → IsDone workers round lists new worker
    out-next first at busy one old new stay here out worker from less idle =
        elim (eqb_tells worker at) as (λ _. IsDone workers round lists new worker) [
          | inl same ↦
              (let there_ : slice_get (set busy at one) at ≡ Some false = ap (slice_get (set busy at one)) (sym same.1) ∙ idle in
              let long = length-set busy at one in
              let within = slice_get_within (set busy at one) at false there_ in
              let some : Some one ≡ Some false = sym (slice_get-set_same busy at one (omega (arith, within, long))) ∙ there_ in
              let is : one ≡ false = same_Some one false some in
              subst (λ (w : ℕ). IsDone workers round lists new w) (sym same.1) (here is))
          | inr apart ↦
              stay-done worker old new stay
              (out worker from (let other = apart.1 in omega (arith, less, other)) (sym (slice_get-set_other busy at worker one apart.1) ∙ idle))
        ]

    -- what a hand-out leaves: the thread has the order, or it was done here
    pub record HandedOut (worker : ℕ) (one : Bool) (old new : List FlowRound) : Type 0 where
      pub stay : StayKnown (round + 1) old new
      pub here : one ≡ false → IsDone workers round lists new worker
      pub long : length new ≡ length old

    pub handed-out : (worker : ℕ) (order : OrderState) (one : Bool) (old new : List FlowRound) → order ≡ order_of workers worker round lists → length lists ≤ length old
        → (one ≡ true → new ≡ old) → (one ≡ false → new ≡ with_rounds (flow_rounds order.round order.parts) old) → HandedOut worker one old new
    handed-out worker order true old new is within out here =
        let same = out refl in
        record {
          stay = subst (λ (k : List FlowRound). StayKnown (round + 1) old k) (sym same) (λ k at. at);
          here = λ wrong. absurd (let false_ : true ≡ false = wrong in (cc));
          long = ap (λ (k : List FlowRound). length k) same;
        }
    handed-out worker order false old new is within out here =
        let learns = here-learns worker order old new is within (here refl) in
        record { stay = learns.stay; here = λ same. learns.done; long = learns.long }

    -- an order was taken back, or there was none
    pub taken-learns : (worker : ℕ) (was : Bool) (old new : List FlowRound) → length lists ≤ length old
        → (was ≡ false → new ≡ old) → (was ≡ true → new ≡ with_rounds_back (flow_rounds round (parts_of_worker workers worker lists)) old)
        → (was ≡ false → IsDone workers round lists old worker) → Learns worker old new
    taken-learns worker true old new within none taken done = back-learns worker old new within (taken refl)
    taken-learns worker false old new within none taken done =
        let same = none refl in
        record {
          done = subst (λ (k : List FlowRound). IsDone workers round lists k worker) (sym same) (done refl);
          stay = subst (λ (k : List FlowRound). StayKnown (round + 1) old k) (sym same) (λ k at. at);
          long = ap (λ (k : List FlowRound). length k) same;
        }

    pub out-rest : (at : ℕ) (busy : List Bool) (one : Bool) (old new : List FlowRound) → StayKnown (round + 1) old new
        → AreDoneOrOut workers round lists busy old at → AreDoneOrOut workers round lists (set busy at one) new (at + 1)
    out-rest at busy one old new stay out worker from less idle =
        let apart : worker ≢ at = λ same. omega (arith, from, same) in
        stay-done worker old new stay (out worker (omega (arith, from)) less (sym (slice_get-set_other busy at worker one apart) ∙ idle))

    pub done-below : (at : ℕ) (old new : List FlowRound) → Learns at old new → ((worker : ℕ) → worker < at → IsDone workers round lists old worker)
        → (worker : ℕ) → worker < at + 1 → IsDone workers round lists new worker
    done-below at old new learns done worker less =
        elim (eqb_tells worker at) as (λ _. IsDone workers round lists new worker) [
          | inl same ↦ subst (λ (w : ℕ). IsDone workers round lists new w) (sym same.1) learns.done
          | inr apart ↦ stay-done worker old new learns.stay (done worker (let other = apart.1 in omega (arith, less, other)))
        ]

    -- the first orders have no part, the next one was done, and the others were handed out or done
    pub all-out : (first : ℕ) (orders : List OrderState) (busy : List Bool) (known : List FlowRound) → AreDealt workers round lists orders → AreIdle first orders
        → (first < workers → IsDone workers round lists known first) → AreDoneOrOut workers round lists busy known (first + 1)
        → AreDoneOrOut workers round lists busy known 0
    all-out first orders busy known dealt idle here out worker from less free =
        elim (leb_tells worker first) as (λ _. IsDone workers round lists known worker) [
          | inl most ↦
              (elim (eqb_tells worker first) as (λ _. IsDone workers round lists known worker) [
                | inl same ↦
                    (let is = same.1 in
                    subst (λ (w : ℕ). IsDone workers round lists known w) (sym is) (here (omega (arith, less, is))))
                | inr apart ↦
                    (let other = apart.1 in
                    let few = most.1 in
                    let order = order_of workers worker round lists in
                    idle-done worker order known refl (idle worker order (omega (arith, few, other)) (dealt worker less)))
              ])
          | inr more ↦ (let over = more.1 in out worker (omega (arith, over)) less free)
        ]

    -- ---- one flow after another

    -- of the flows below `number` those that have no acknowledgements are known after the round
    abbrev pub AreRestedBelow : ℕ → List FlowRound → Type 0
    AreRestedBelow number known =
        (k : ℕ) (acks : List Ack) → k < number → slice_get lists k ≡ Some acks → length acks ≡ 0 → IsKnown known k (round + 1)

    -- what is known after a flow was dealt
    pub record DealsKnown (number : ℕ) (acks : List Ack) (old new : List FlowRound) : Type 0 where
      pub rested : length acks ≡ 0 → new ≡ set old number (number, round + 1)
      pub same : 0 < length acks → new ≡ old

    deals-length : (number : ℕ) (acks : List Ack) (old new : List FlowRound) → DealsKnown number acks old new → length new ≡ length old
    deals-length number [] old new deals = ap (λ (k : List FlowRound). length k) (deals.rested refl) ∙ length-set old number (number, round + 1)
    deals-length number (ack ∷ rest) old new deals = ap (λ (k : List FlowRound). length k) (deals.same (omega arith))

    deals-others : (number : ℕ) (acks : List Ack) (old new : List FlowRound) (k after : ℕ) → DealsKnown number acks old new → k ≢ number → IsKnown old k after
        → IsKnown new k after
    deals-others number [] old new k after deals apart at =
        subst (λ (known : List FlowRound). IsKnown known k after) (sym (deals.rested refl)) (set-others old number k (number, round + 1) after apart at)
    deals-others number (ack ∷ rest) old new k after deals apart at =
        subst (λ (known : List FlowRound). IsKnown known k after) (sym (deals.same (omega arith))) at

    pub dealt-length : (number : ℕ) (acks : List Ack) (old new : List FlowRound) → DealsKnown number acks old new → length new ≡ length old
    dealt-length number acks old new deals = deals-length number acks old new deals

    pub dealt-from : (number : ℕ) (acks : List Ack) (old new : List FlowRound) → DealsKnown number acks old new → AreKnownFrom number old round
        → AreKnownFrom (number + 1) new round
    dealt-from number acks old new deals known k from less =
        let long = deals-length number acks old new deals in
        let apart : k ≢ number = λ same. omega (arith, from, same) in
        deals-others number acks old new k round deals apart (known k (omega (arith, from)) (omega (arith, less, long)))

    pub dealt-rested : (number : ℕ) (acks : List Ack) (old new : List FlowRound) → number < length old → slice_get lists number ≡ Some acks
        → DealsKnown number acks old new → AreRestedBelow number old → AreRestedBelow (number + 1) new
    dealt-rested number acks old new within at deals rested k given less there_ none =
        elim (eqb_tells k number) as (λ _. IsKnown new k (round + 1)) [
          | inl same ↦
              (let is = same.1 in
              let own : acks ≡ given = same_Some acks given (sym at ∙ ap (slice_get lists) (sym is) ∙ there_) in
              let empty : length acks ≡ 0 = ap (λ (xs : List Ack). length xs) own ∙ none in
              subst (λ (n : ℕ). IsKnown new n (round + 1)) (sym is)
              (subst (λ (known : List FlowRound). IsKnown known number (round + 1)) (sym (deals.rested empty))
              (slice_get-set_same old number (number, round + 1) within)))
          | inr apart ↦
              (let other = apart.1 in
              deals-others number acks old new k (round + 1) deals other (rested k given (omega (arith, less, other)) there_ none))
        ]

    -- ---- after a round every flow is known

    pub all-known : (known : List FlowRound) → 0 < workers → length known ≡ length lists → AreRested round lists known → AreDone workers round lists known
        → AreKnown known (round + 1)
    all-known known some long rested done number less =
        let one = slice_get-some lists number (omega (arith, less, long)) in
        known-where one.0 one.1 where
          known-where : (acks : List Ack) → slice_get lists number ≡ Some acks → IsKnown known number (round + 1)
          known-where [] at = rested number [] at refl
          known-where (ack ∷ rest) at =
              let worker = number % workers in
              let same : 0 + number ≡ number = omega arith in
              let own : is_done_by workers worker (0 + number, ack ∷ rest) ≡ true =
              ap (λ (n : ℕ). n % workers == worker) same ∙ eq-eqb worker worker refl in
              subst (λ (n : ℕ). IsKnown known n (round + 1)) same
              (part-known (is_done_by workers worker) 0 lists number (ack ∷ rest) known at own (done worker (mod-lt number some)))

-- ---- what an order has

module _ {X : Type 0} (number_of round_of : X → ℕ) (acks_of : X → List Ack) where
  rounds-of : (P : FlowRound → Type 0) (round : ℕ) (items : List X) → All (λ (flow : FlowRound). P flow × (flow.1 ≡ round)) (map (λ x. (number_of x, round_of x)) items)
      → map (λ x. (number_of x, round_of x)) items ≡ flow_rounds round (map (λ x. (number_of x, acks_of x)) items)
  rounds-of P round [] own = refl
  rounds-of P round (x ∷ rest) own =
      let here : round_of x ≡ round = (own 0 (number_of x, round_of x) (omega arith)).1 in
      λ i. (number_of x, here i) ∷ rounds-of P round rest (λ k d less. own (suc k) d (omega (arith, less))) i

  with-append : (xs ys known : List FlowRound) → with_rounds (xs ++ ys) known ≡ with_rounds ys (with_rounds xs known)
  with-append [] ys known = refl
  with-append (x ∷ xs) ys known = with-append xs ys (set known x.0 (x.0, x.1 + 1))

  back-append : (xs ys known : List FlowRound) → with_rounds_back (xs ++ ys) known ≡ with_rounds_back xs (with_rounds_back ys known)
  back-append [] ys known = refl
  back-append (x ∷ xs) ys known = ap (λ (k : List FlowRound). set k x.0 (x.0, x.1 + 1)) (back-append xs ys known)

  both-rounds : (P : FlowRound → Type 0) (round : ℕ) (items last : List X)
      → All (λ (flow : FlowRound). P flow × (flow.1 ≡ round)) (map (λ x. (number_of x, round_of x)) items)
      → All (λ (flow : FlowRound). P flow × (flow.1 ≡ round)) (map (λ x. (number_of x, round_of x)) last)
      → map (λ x. (number_of x, round_of x)) items ++ map (λ x. (number_of x, round_of x)) last ≡ flow_rounds round (map (λ x. (number_of x, acks_of x)) (items ++ last))
  both-rounds P round items last own own_last =
      (λ i. rounds-of P round items own i ++ rounds-of P round last own_last i)
      ∙ sym (map-append (λ (part : FlowPart). (part.0, round)) (map (λ x. (number_of x, acks_of x)) items) (map (λ x. (number_of x, acks_of x)) last))
      ∙ sym (ap (flow_rounds round) (map-append (λ x. (number_of x, acks_of x)) items last))

  pub order-here : (P : FlowRound → Type 0) (round : ℕ) (items last : List X) (known : List FlowRound)
      → All (λ (flow : FlowRound). P flow × (flow.1 ≡ round)) (map (λ x. (number_of x, round_of x)) items)
      → All (λ (flow : FlowRound). P flow × (flow.1 ≡ round)) (map (λ x. (number_of x, round_of x)) last)
      → with_rounds (map (λ x. (number_of x, round_of x)) last) (with_rounds (map (λ x. (number_of x, round_of x)) items) known)
      ≡ with_rounds (flow_rounds round (map (λ x. (number_of x, acks_of x)) (items ++ last))) known
  order-here P round items last known own own_last =
      sym (with-append (map (λ x. (number_of x, round_of x)) items) (map (λ x. (number_of x, round_of x)) last) known)
      ∙ ap (λ (flows : List FlowRound). with_rounds flows known) (both-rounds P round items last own own_last)

  pub order-back : (P : FlowRound → Type 0) (round : ℕ) (items last : List X) (known : List FlowRound)
      → All (λ (flow : FlowRound). P flow × (flow.1 ≡ round)) (map (λ x. (number_of x, round_of x)) items)
      → All (λ (flow : FlowRound). P flow × (flow.1 ≡ round)) (map (λ x. (number_of x, round_of x)) last)
      → with_rounds_back (map (λ x. (number_of x, round_of x)) items) (with_rounds_back (map (λ x. (number_of x, round_of x)) last) known)
      ≡ with_rounds_back (flow_rounds round (map (λ x. (number_of x, acks_of x)) (items ++ last))) known
  order-back P round items last known own own_last =
      sym (back-append (map (λ x. (number_of x, round_of x)) items) (map (λ x. (number_of x, round_of x)) last) known)
      ∙ ap (λ (flows : List FlowRound). with_rounds_back flows known) (both-rounds P round items last own own_last)

  -- one more is taken from the end
  pub back-last : (items : List X) (last : X) (known : List FlowRound)
      → with_rounds_back (map (λ x. (number_of x, round_of x)) (items ++ last ∷ [])) known
      ≡ with_rounds_back (map (λ x. (number_of x, round_of x)) items) (set known (number_of last) (number_of last, round_of last + 1))
  back-last items last known =
      ap (λ (flows : List FlowRound). with_rounds_back flows known) (map-append (λ x. (number_of x, round_of x)) items (last ∷ []))
      ∙ back-append (map (λ x. (number_of x, round_of x)) items) ((number_of last, round_of last) ∷ []) known
