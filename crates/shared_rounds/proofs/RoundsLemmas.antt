-- The rounds of a run: how many acknowledgement lists the link gives, how the link stands, and after which round it ends.
use Rattle.std.specs.Prelude.{◌≡◌, ◌<◌, ◌≤◌, ℕ, zero, suc, ◌+◌, true, false, nat_le, Some, Result, Ok, Err, OnOk, List, [], ◌∷◌, ◌++◌, length, take, drop, slice_get, refl}
use Rattle.std.proofs.Common.{arith, ap, sym, ◌∙◌, subst, add-one, length-append, ◌⊎◌, inl, inr}
use Rattle.std.proofs.lemmas.Bool.Decides.{leb_tells}
use Rattle.std.proofs.lemmas.List.{take_more, drop-drop}
use Rattle.std.proofs.lemmas.Option.{slice_get_within, get_or_from_slice_get, same_Some}
use Rattle.circular_buffer.proofs.Places.{slice_get-drop}
use Rattle.ccp_base.specs.declared.ack.Ack.{Ack}
use Rattle.shared_link.specs.declared.round.Ask.{Ask}
use Rattle.shared_link.specs.declared.shared_case.SharedCase.{SharedCase}
use Rattle.shared_link.specs.SharedRounds.{each_flow, round_givens, sent_by, shared_run_of, acks_of_givens}
use Rattle.shared_link.specs.SharedStanding.{SharedState, Stands}
use Rattle.shared_rounds.specs.Rounds.{asked_before, acks_in_round, Rests, none_left, StandsAfter, GoesOn}

-- ---- lists

pub on-ok : {A E P : Type 0} (made : Result A E) → P → OnOk made P
on-ok (Ok a) proof = proof
on-ok (Err e) proof = tt

-- the first item of what is left of a list, and the rest
pub drop_get : {A : Type 0} (xs : List A) (n : ℕ) (x : A) (rest : List A) → x ∷ rest ≡ drop n xs → slice_get xs n ≡ Some x
drop_get {A = A} xs n x rest is = sym (slice_get-drop n xs 0 n (omega arith)) ∙ ap (λ (l : List A). slice_get l 0) (sym is)

pub taken_on : {A : Type 0} (all before after : List A) (n : ℕ) (one : A) → before ≡ take n all → after ≡ before ++ one ∷ [] → slice_get all n ≡ Some one
    → after ≡ take (n + 1) all
taken_on {A = A} all before after n one begun pushed at =
    let more = take_more all n one (slice_get_within all n one at) in
    pushed ∙ ap (λ (xs : List A). xs ++ one ∷ []) begun
    ∙ sym (more ∙ ap (λ (x : A). take n all ++ x ∷ []) (get_or_from_slice_get all n one one at))

pub dropped_on : {A : Type 0} (all : List A) (n : ℕ) (one : A) (rest : List A) → one ∷ rest ≡ drop n all → rest ≡ drop (n + 1) all
dropped_on all n one rest is = ap (drop 1) is ∙ drop-drop 1 n all

-- ---- a round

-- the link gives a list to each flow
pub each-length : (n : ℕ) (acks : ℕ → List Ack) → length (each_flow n acks) ≡ n
each-length zero acks = refl
each-length (suc flow) acks = omega (arith, each-length flow acks, length-append (each_flow flow acks) (acks flow ∷ []))

pub acks-count : (link : SharedCase) (asks : ℕ → List Ask) (rounds : ℕ) → length (acks_in_round link asks rounds) ≡ length link.flows
acks-count link asks rounds =
    let history = asked_before asks rounds in
    let run = shared_run_of link history in
    each-length (length link.flows) (λ flow. acks_of_givens (round_givens link (asks rounds) run (sent_by link (asks rounds) run) flow))

-- the link after one more round
pub stands-next : (link : SharedCase) (asks : ℕ → List Ask) (rounds : ℕ) (old new : SharedState) (asked : List Ask) → StandsAfter link asks rounds old
    → new.case ≡ old.case → new.rounds ≡ old.rounds + 1
    → ((history : List (List Ask)) → Stands old history → Stands new (history ++ asked ∷ [])) → asked ≡ asks rounds
    → StandsAfter link asks (rounds + 1) new
stands-next link asks rounds old new asked was case one stands same =
    let history = asked_before asks rounds in
    record {
      case = case ∙ was.case;
      rounds_are = one ∙ ap (λ (n : ℕ). n + 1) was.rounds_are;
      stands =
          subst (λ (n : ℕ). Stands new (asked_before asks n)) (sym (add-one rounds))
          (subst (λ (list : List Ask). Stands new (history ++ list ∷ [])) same (stands history was.stands));
    }

-- ---- a flow that rests

pub rests-none : (link : SharedCase) (asks : ℕ → List Ask) (number round : ℕ) → Rests link asks number round round
rests-none link asks number round r acks from before at = absurd (omega (arith, from, before))

pub rests-on : (link : SharedCase) (asks : ℕ → List Ask) (number since round : ℕ) (acks : List Ack) → Rests link asks number since round
    → slice_get (acks_in_round link asks round) number ≡ Some acks → length acks ≡ 0 → Rests link asks number since (round + 1)
rests-on link asks number since round acks rests at none r list from before there = on-where (leb_tells (suc r) round) where
  on-where : ((nat_le (suc r) round ≡ true) × (suc r ≤ round)) ⊎ ((nat_le (suc r) round ≡ false) × (round < suc r)) → length list ≡ 0
  on-where (inl (is, earlier)) = rests r list from (omega (arith, earlier)) there
  on-where (inr (is, later)) =
      let same : r ≡ round = omega (arith, later, before) in
      let here : slice_get (acks_in_round link asks round) number ≡ Some list = ap (λ (n : ℕ). slice_get (acks_in_round link asks n) number) (sym same) ∙ there in
      ap (λ (xs : List Ack). length xs) (same_Some list acks (sym here ∙ at)) ∙ none

-- ---- the end

pub goes-none : (asks : ℕ → List Ask) → GoesOn asks 1
goes-none asks earlier after before = absurd (omega (arith, after, before))

pub goes-more : (asks : ℕ → List Ask) (rounds : ℕ) → GoesOn asks (rounds + 1) → none_left (asks (rounds + 1)) ≡ false → GoesOn asks (rounds + 1 + 1)
goes-more asks rounds goes lacks earlier after before = more-where (leb_tells (suc earlier) (rounds + 1)) where
  more-where : ((nat_le (suc earlier) (rounds + 1) ≡ true) × (suc earlier ≤ rounds + 1)) ⊎ ((nat_le (suc earlier) (rounds + 1) ≡ false) × (rounds + 1 < suc earlier))
      → none_left (asks earlier) ≡ false
  more-where (inl (is, less)) = goes earlier after (omega (arith, less))
  more-where (inr (is, most)) =
      let same : earlier ≡ rounds + 1 = omega (arith, most, before) in
      ap (λ (n : ℕ). none_left (asks n)) same ∙ lacks

pub goes-fewer : (asks : ℕ → List Ask) (rounds : ℕ) → GoesOn asks (rounds + 1) → GoesOn asks rounds
goes-fewer asks rounds goes earlier after before = goes earlier after (omega (arith, before))
