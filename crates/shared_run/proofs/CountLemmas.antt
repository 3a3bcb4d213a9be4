-- The counts of what flows may have in a round: each has as many acknowledgements left as it is given.
use Rattle.std.specs.Prelude.{◌≡◌, ◌≤◌, ℕ, zero, suc, ◌+◌, ◌-◌, Some, List, [], ◌∷◌, length, slice_get, refl}
use Rattle.std.proofs.Common.{arith, ap}
use Rattle.std.proofs.lemmas.Option.{same_Some, none-some}
use Rattle.ccp_base.specs.declared.ack.Ack.{Ack}
use Rattle.flow_core.specs.Readings.{over_codes}
use Rattle.flow_core.specs.Cores.{CoreState}
use Rattle.shared_link.specs.declared.round.Ask.{Ask}
use Rattle.shared_link.specs.declared.shared_case.SharedCase.{SharedCase}
use Rattle.shared_link.specs.SharedRounds.{ask_at, sent_by, round_givens, shared_run_of, acks_of_givens, acks_after}
use Rattle.shared_run.specs.SharedHistory.{asks_of}
use Rattle.shared_run.proofs.AnswerLemmas.{round-few, each-get}

-- a flow has no more acknowledgements than its case
abbrev pub KeepsCount : CoreState → Type 0
KeepsCount core = length core.acks ≤ core.case.acks

abbrev pub KeepCounts : List CoreState → Type 0
KeepCounts [] = Unit {0}
KeepCounts (core ∷ rest) = KeepsCount core × KeepCounts rest

-- each flow has as many acknowledgements left as its list has
abbrev pub Within : List (List Ack) → List CoreState → Type 0
Within [] flows = Unit {0}
Within (acks ∷ others) [] = Unit {0}
Within (acks ∷ others) (core ∷ rest) = (length core.acks + length acks ≤ core.case.acks) × Within others rest

within-from : (lists : List (List Ack)) (flows : List CoreState)
    → ((i : ℕ) (acks : List Ack) (core : CoreState) → slice_get lists i ≡ Some acks → slice_get flows i ≡ Some core
    → length core.acks + length acks ≤ core.case.acks)
    → Within lists flows
within-from [] flows each = tt
within-from (acks ∷ others) [] each = tt
within-from (acks ∷ others) (core ∷ rest) each =
    (each 0 acks core refl refl, within-from others rest (λ i list one at there. each (suc i) list one at there))

-- what a flow asks for
ask-left : (flows : List CoreState) (i : ℕ) (core : CoreState) → slice_get flows i ≡ Some core
    → (ask_at (asks_of over_codes flows) i).left ≡ core.case.acks - length core.acks
ask-left [] i core is = absurd (none-some core is)
ask-left (first ∷ rest) zero core is = ap (λ (c : CoreState). c.case.acks - length c.acks) (same_Some first core is)
ask-left (first ∷ rest) (suc i) core is = ask-left rest i core is

keeps-at : (flows : List CoreState) → KeepCounts flows → (i : ℕ) (core : CoreState) → slice_get flows i ≡ Some core → length core.acks ≤ core.case.acks
keeps-at [] keep i core is = absurd (none-some core is)
keeps-at (first ∷ rest) keep zero core is =
    let same = same_Some first core is in
    let acks = ap (λ (c : CoreState). length c.acks) same in
    let case = ap (λ (c : CoreState). c.case.acks) same in
    let here = keep.0 in
    omega (arith, acks, case, here)
keeps-at (first ∷ rest) keep (suc i) core is = keeps-at rest keep.1 i core is

pub within-after : (case : SharedCase) (rounds : List (List Ask)) (flows : List CoreState) → KeepCounts flows
    → Within (acks_after case rounds (asks_of over_codes flows)) flows
within-after case rounds flows keep =
    let asks = asks_of over_codes flows in
    let run = shared_run_of case rounds in
    let sent = sent_by case asks run in
    within-from (acks_after case rounds asks) flows
    (λ i acks core at there.
    let same = ap (λ (xs : List Ack). length xs) (each-get (length case.flows) (λ flow. acks_of_givens (round_givens case asks run sent flow)) i acks at) in
    let few = round-few case asks run sent i in
    let left = ask-left flows i core there in
    let most = keeps-at flows keep i core there in
    omega (arith, same, few, left, most))
