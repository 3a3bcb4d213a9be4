-- What a run's course promises: each flow asks, and one without acknowledgements in a round stands and asks as before.
use Rattle.std.specs.Prelude.{◌≡◌, ℕ, zero, suc, ◌+◌, Some, option_map, List, [], ◌∷◌, ◌++◌, length, slice_get, refl}
use Rattle.std.proofs.Common.{arith, ap, sym, ◌∙◌, add-one}
use Rattle.std.proofs.lemmas.List.{length-map}
use Rattle.std.proofs.lemmas.Option.{slice_get-map, same_Some}
use Rattle.ccp_base.specs.declared.ack.Ack.{Ack}
use Rattle.flow_core.specs.declared.case.Case.{Case}
use Rattle.flow_core.specs.Readings.{over_codes}
use Rattle.flow_core.specs.Cores.{CoreState}
use Rattle.shared_link.specs.declared.round.Ask.{Ask}
use Rattle.shared_link.specs.declared.shared_case.SharedCase.{SharedCase}
use Rattle.shared_link.specs.SharedRounds.{acks_after}
use Rattle.campaign_core.specs.FlowRow.{opened}
use Rattle.shared_rounds.specs.Rounds.{asked_before, acks_in_round}
use Rattle.shared_run.specs.RoundLetters.{round_part}
use Rattle.shared_run.specs.SharedHistory.{ask_of, parts}
use Rattle.shared_run.specs.Courses.{run_after, flows_after, asks_in, acks_in}

parts-length : (lists : List (List Ack)) (flows : List CoreState) → length (parts over_codes lists flows) ≡ length flows
parts-length [] flows = refl
parts-length (list ∷ lists) [] = refl
parts-length (list ∷ lists) (flow ∷ flows) = ap suc (parts-length lists flows)

rest-first : (list : List Ack) (flow : CoreState) → length list ≡ 0 → Some (round_part over_codes list flow) ≡ Some flow
rest-first [] flow none = refl
rest-first (ack ∷ rest) flow none = absurd (omega (arith, none))

-- a flow without acknowledgements stays as it is
pub rest-parts : (lists : List (List Ack)) (flows : List CoreState) (i : ℕ) (acks : List Ack) → slice_get lists i ≡ Some acks → length acks ≡ 0
    → slice_get (parts over_codes lists flows) i ≡ slice_get flows i
rest-parts [] flows i acks at none = refl
rest-parts (list ∷ lists) [] i acks at none = refl
rest-parts (list ∷ lists) (flow ∷ flows) zero acks at none =
    rest-first list flow (ap (λ (xs : List Ack). length xs) (same_Some list acks at) ∙ none)
rest-parts (list ∷ lists) (flow ∷ flows) (suc i) acks at none = rest-parts lists flows i acks at none

module _ (link : SharedCase) (cases : List Case) where
  pub flows_count : (rounds : ℕ) → length (flows_after link cases rounds) ≡ length cases
  flows_count zero = length-map cases opened
  flows_count (suc rounds) = parts-length (acks_in link cases rounds) (flows_after link cases rounds) ∙ flows_count rounds

  pub asks_count : (rounds : ℕ) → length (asks_in link cases rounds) ≡ length cases
  asks_count rounds = length-map (flows_after link cases rounds) (ask_of over_codes) ∙ flows_count rounds

  -- a run's history is what its flows asked for
  pub asked-same : (rounds : ℕ) → asked_before (asks_in link cases) rounds ≡ (run_after link over_codes cases rounds).history
  asked-same zero = refl
  asked-same (suc rounds) = ap (λ (history : List (List Ask)). history ++ asks_in link cases rounds ∷ []) (asked-same rounds)

  pub acks-same : (rounds : ℕ) → acks_in_round link (asks_in link cases) rounds ≡ acks_in link cases rounds
  acks-same rounds = ap (λ (history : List (List Ask)). acks_after link history (asks_in link cases rounds)) (asked-same rounds)

  pub flows_rest : (rounds number : ℕ) (acks : List Ack) → slice_get (acks_in link cases rounds) number ≡ Some acks → length acks ≡ 0
      → slice_get (flows_after link cases rounds) number ≡ slice_get (flows_after link cases (rounds + 1)) number
  flows_rest rounds number acks at none =
      sym (ap (λ (n : ℕ). slice_get (flows_after link cases n) number) (add-one rounds)
      ∙ rest-parts (acks_in link cases rounds) (flows_after link cases rounds) number acks at none)

  pub asks_rest : (rounds number : ℕ) (acks : List Ack) → slice_get (acks_in_round link (asks_in link cases) rounds) number ≡ Some acks → length acks ≡ 0
      → slice_get (asks_in link cases rounds) number ≡ slice_get (asks_in link cases (rounds + 1)) number
  asks_rest rounds number acks at none =
      let there : slice_get (acks_in link cases rounds) number ≡ Some acks = ap (λ (lists : List (List Ack)). slice_get lists number) (sym (acks-same rounds)) ∙ at in
      slice_get-map (ask_of over_codes) (flows_after link cases rounds) number
      ∙ ap (option_map (ask_of over_codes)) (flows_rest rounds number acks there none)
      ∙ sym (slice_get-map (ask_of over_codes) (flows_after link cases (rounds + 1)) number)
