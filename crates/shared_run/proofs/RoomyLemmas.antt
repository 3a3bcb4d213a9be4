-- What a row sums over a flow's acknowledgements are numbers of 64 bits.
use Rattle.std.specs.Prelude.{◌≡◌, ◌<◌, ◌≤◌, ℕ, zero, suc, ◌*◌, true, Some, List, [], ◌∷◌, ◌++◌, length, map, slice_get, refl}
use Rattle.std.proofs.Common.{arith, ap, sym, subst, length-append}
use Rattle.std.proofs.lemmas.Option.{same_Some, none-some}
use Rattle.ccp_base.specs.declared.ack.Ack.{Ack}
use Rattle.flow_core.specs.declared.case.Case.{Case}
use Rattle.flow_core.specs.Readings.{over_codes}
use Rattle.flow_core.specs.Cores.{CoreState}
use Rattle.campaign_core.specs.CampaignRow.{lost_in, acked_in}
use Rattle.shared_link.specs.declared.shared_case.SharedCase.{SharedCase}
use Rattle.shared_link.specs.SharedLimits.{IsWithin}
use Rattle.shared_link.specs.SharedRounds.{acks_after}
use Rattle.campaign_core.specs.FlowRow.{opened}
use Rattle.shared_run.specs.RoundLetters.{closed_flow}
use Rattle.shared_run.specs.RoundFlows.{AreRoomy, HaveAllAcks}
use Rattle.shared_run.specs.SharedHistory.{Progress, asks_of, parts, after_round}
use Rattle.shared_run.specs.Courses.{run_after, flows_after}
use Rattle.campaign_core.specs.GivenFlows.{HasAllAcks}
use Rattle.shared_run.proofs.TurnLemmas.{part-case, part-acks, part-all, settled-acks, settled-case, settled-all}
use Rattle.shared_run.proofs.AnswerLemmas.{AreSmall, AreAllSmall, after-all-small}
use Rattle.shared_run.proofs.CountLemmas.{KeepCounts, Within, within-after}

abbrev pub SmallFlows : List CoreState → Type 0
SmallFlows [] = Unit {0}
SmallFlows (core ∷ rest) = AreSmall 2621440000 core.acks × SmallFlows rest

small-append : (most : ℕ) (acks more : List Ack) → AreSmall most acks → AreSmall most more → AreSmall most (acks ++ more)
small-append most [] more small also = also
small-append most (ack ∷ rest) more small also = (small.0, small-append most rest more small.1 also)

parts-small : (lists : List (List Ack)) (flows : List CoreState) → AreAllSmall lists → SmallFlows flows → SmallFlows (parts over_codes lists flows)
parts-small [] flows all small = small
parts-small (acks ∷ others) [] all small = tt
parts-small (acks ∷ others) (core ∷ rest) all small = (
  subst (λ (xs : List Ack). AreSmall 2621440000 xs) (sym (part-acks over_codes acks core)) (small-append 2621440000 core.acks acks small.0 all.0),
  parts-small others rest all.1 small.1,
)

parts-keep : (lists : List (List Ack)) (flows : List CoreState) → Within lists flows → KeepCounts flows → KeepCounts (parts over_codes lists flows)
parts-keep [] flows within keep = keep
parts-keep (acks ∷ others) [] within keep = tt
parts-keep (acks ∷ others) (core ∷ rest) within keep =
    let all = ap (λ (xs : List Ack). length xs) (part-acks over_codes acks core) in
    let case = ap (λ (c : Case). c.acks) (part-case over_codes acks core) in
    let here = within.0 in (
      omega (arith, all, case, here, length-append core.acks acks),
      parts-keep others rest within.1 keep.1,
    )

pub round-keeps : (link : SharedCase) (run : Progress) → KeepCounts run.flows → KeepCounts (after_round link over_codes run).flows
round-keeps link run keep =
    parts-keep (acks_after link run.history (asks_of over_codes run.flows)) run.flows (within-after link run.history run.flows keep) keep

module _ (link : SharedCase) (within : IsWithin link) where
  round-smalls : (run : Progress) → length run.history < 10000 → SmallFlows run.flows → SmallFlows (after_round link over_codes run).flows
  round-smalls run fewer small =
      parts-small (acks_after link run.history (asks_of over_codes run.flows)) run.flows
      (after-all-small link within run.history (asks_of over_codes run.flows) fewer) small

opened-small : (cases : List Case) → SmallFlows (map opened cases)
opened-small [] = tt
opened-small (case ∷ rest) = (tt, opened-small rest)

pub opened-keep : (cases : List Case) → KeepCounts (map opened cases)
opened-keep [] = tt
opened-keep (case ∷ rest) = (omega arith, opened-keep rest)

-- ---- the sums

lost-sum : (acks : List Ack) → AreSmall 2621440000 acks → lost_in acks ≤ 2621440000 * length acks
lost-sum [] small = omega arith
lost-sum (ack ∷ rest) small =
    let here = small.0.0 in
    let later = lost-sum rest small.1 in
    omega (arith, here, later)

acked-sum : (acks : List Ack) → AreSmall 2621440000 acks → acked_in acks ≤ 65535 * length acks
acked-sum [] small = omega arith
acked-sum (ack ∷ rest) small =
    let here = small.0.1 in
    let later = acked-sum rest small.1 in
    omega (arith, here, later)

roomy-of : (core : CoreState) → AreSmall 2621440000 core.acks → length core.acks ≤ core.case.acks → AreRoomy core.acks
roomy-of core small keep =
    let lost = lost-sum core.acks small in
    let acked = acked-sum core.acks small in
    let most : core.case.acks ≤ 65536 = core.case.acks_within in
    (omega (arith, lost, keep, most), omega (arith, acked, keep, most))

roomy-at : (flows : List CoreState) → SmallFlows flows → KeepCounts flows → (number : ℕ) (core : CoreState) → slice_get flows number ≡ Some core → AreRoomy core.acks
roomy-at [] small keep number core at = absurd (none-some core at)
roomy-at (first ∷ rest) small keep zero core at =
    subst (λ (one : CoreState). AreRoomy one.acks) (same_Some first core at) (roomy-of first small.0 keep.0)
roomy-at (first ∷ rest) small keep (suc number) core at = roomy-at rest small.1 keep.1 number core at

module _ (link : SharedCase) (cases : List Case) where
  pub flows-keep : (rounds : ℕ) → KeepCounts (flows_after link cases rounds)
  flows-keep zero = opened-keep cases
  flows-keep (suc rounds) = round-keeps link (run_after link over_codes cases rounds) (flows-keep rounds)

  history-length : (rounds : ℕ) → length (run_after link over_codes cases rounds).history ≡ rounds
  history-length zero = refl
  history-length (suc rounds) =
      let run = run_after link over_codes cases rounds in
      let before = history-length rounds in
      omega (arith, before, length-append run.history (asks_of over_codes run.flows ∷ []))

  flows-small : IsWithin link → (rounds : ℕ) → rounds ≤ 10000 → SmallFlows (flows_after link cases rounds)
  flows-small within zero few = opened-small cases
  flows-small within (suc rounds) few =
      round-smalls link within (run_after link over_codes cases rounds) (omega (arith, few, history-length rounds)) (flows-small within rounds (omega (arith, few)))

  -- the flows of a run
  pub flows-roomy : IsWithin link → (rounds : ℕ) → rounds ≤ 10000 → (number : ℕ) (core : CoreState) → slice_get (flows_after link cases rounds) number ≡ Some core
      → AreRoomy core.acks
  flows-roomy within rounds few number core at =
      roomy-at (flows_after link cases rounds) (flows-small within rounds few) (flows-keep rounds) number core at

-- ---- the words have all acknowledgements

parts-whole : (lists : List (List Ack)) (flows : List CoreState) → Within lists flows → HaveAllAcks flows → HaveAllAcks (parts over_codes lists flows)
parts-whole [] flows within whole = whole
parts-whole (acks ∷ others) [] within whole = tt
parts-whole (acks ∷ others) (core ∷ rest) within whole =
    let all = ap (λ (xs : List Ack). length xs) (part-acks over_codes acks core) in
    let case = ap (λ (c : Case). c.acks) (part-case over_codes acks core) in
    let here = within.0 in (
      record {
        all = part-all over_codes acks core whole.0.all;
        within = omega (arith, all, case, here, length-append core.acks acks);
      },
      parts-whole others rest within.1 whole.1,
    )

opened-whole : (cases : List Case) → HaveAllAcks (map opened cases)
opened-whole [] = tt
opened-whole (case ∷ rest) = (record { all = refl; within = omega arith }, opened-whole rest)

closed-whole : (flows : List CoreState) → HaveAllAcks flows → HaveAllAcks (map (closed_flow over_codes) flows)
closed-whole [] whole = tt
closed-whole (core ∷ rest) whole =
    let acks = ap (λ (xs : List Ack). length xs) (settled-acks over_codes true core) in
    let case = ap (λ (c : Case). c.acks) (settled-case over_codes true core) in
    let within = whole.0.within in (
      record { all = settled-all over_codes true core whole.0.all; within = omega (arith, acks, case, within) },
      closed-whole rest whole.1,
    )

whole-at : (flows : List CoreState) → HaveAllAcks flows → (number : ℕ) (core : CoreState) → slice_get flows number ≡ Some core → HasAllAcks core
whole-at [] whole number core at = absurd (none-some core at)
whole-at (first ∷ rest) whole zero core at = subst (λ (one : CoreState). HasAllAcks one) (same_Some first core at) whole.0
whole-at (first ∷ rest) whole (suc number) core at = whole-at rest whole.1 number core at

module _ (link : SharedCase) (cases : List Case) where
  pub flows-whole : (rounds : ℕ) → HaveAllAcks (flows_after link cases rounds)
  flows-whole zero = opened-whole cases
  flows-whole (suc rounds) =
      let run = run_after link over_codes cases rounds in
      parts-whole (acks_after link run.history (asks_of over_codes run.flows)) run.flows
      (within-after link run.history run.flows (flows-keep link cases rounds)) (flows-whole rounds)

  pub flow-whole : (rounds number : ℕ) (core : CoreState) → slice_get (flows_after link cases rounds) number ≡ Some core → HasAllAcks core
  flow-whole rounds number core at = whole-at (flows_after link cases rounds) (flows-whole rounds) number core at

  -- at the end of the run
  pub ends-whole : (rounds : ℕ) → HaveAllAcks (map (closed_flow over_codes) (flows_after link cases rounds))
  ends-whole rounds = closed-whole (flows_after link cases rounds) (flows-whole rounds)
