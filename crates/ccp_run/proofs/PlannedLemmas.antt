-- What a driven case says is within its ranges, and the cases that are planned by what cases say are their driven cases.
use Rattle.std.proofs.Common.{◌≡◌, ◌∙◌, ◌⊎◌, inl, inr, ◌≤◌, ◌<◌, ℕ, suc, ◌+◌, true, false, leb, Option, Some, None, option_map, List, [], ◌∷◌, map, slice_index, subst, refl, ap, arith}
use Rattle.std.specs.Coded.{le_prop, ×_prop}
use Rattle.std.specs.List.Sorted.{IsStrictlyIncreasing}
use Rattle.std.specs.Option.{ForSome}
use Rattle.std.proofs.lemmas.Bool.Decides.{leb_tells}
use Rattle.ccp_base.specs.Limits.{most_acks, most_slots, most_lag, most_segment_bytes, most_queue, most_mark, most_delay_us, most_timeout_us}
use Rattle.flow_core.specs.declared.case.Case.{Case}
use Rattle.scene_members.specs.declared.plan.Plan.{Plan}
use Rattle.scene_core.specs.CasePlans.{plan_of, AreFlowsFrom}
use Rattle.ccp_run.specs.PlannedCases.{first_of_two, where_so, at_most, within, rise_on, rising, marked, unmarked, marking, IsDrivable, drivable, driven_with, and_then, planned_cases}
use Rattle.driven_flow.specs.DrivenCases.{driven_case}
use Rattle.ccp_run.proofs.AlikeLemmas.{over_prop, same_link}

-- ---- tests that hold

-- a test gives some proof
abbrev Gives : {A : Type 0} → Option A → Type 0
Gives {A} test = (so : A) × (test ≡ Some so)

at_most-gives : (n most : ℕ) → n ≤ most → Gives (at_most n most)
at_most-gives n most low = go (leb_tells n most)
  where
    go : (told : ((leb n most ≡ true) × (n ≤ most)) ⊎ ((leb n most ≡ false) × (most < n)))
        → Gives (option_map (λ (is : (leb n most ≡ true) × (n ≤ most)). is.1) (first_of_two told))
    go (inl is) = (is.1, refl)
    go (inr not) = let over = not.1 in absurd (omega (arith, low, over))

within-gives : (least most n : ℕ) → (least ≤ n) × (n ≤ most) → Gives (within least most n)
within-gives least most n is =
    let low = at_most-gives least n is.0 in
    let high = at_most-gives n most is.1 in
    ((low.0, high.0), λ i. where_so (low.1 i) (λ l. where_so (high.1 i) (λ h. Some (l, h))))

rest_rises : (x y : ℕ) (rest : List ℕ) → IsStrictlyIncreasing (x ∷ y ∷ rest) → IsStrictlyIncreasing (y ∷ rest)
rest_rises x y rest rise k inside =
    let one : suc k + 1 ≡ suc (k + 1) = omega arith in
    subst (λ n. slice_index (y ∷ rest) k < slice_index (x ∷ y ∷ rest) n) one (rise (suc k) (omega (arith, inside)))

rising-gives : (xs : List ℕ) → IsStrictlyIncreasing xs → Gives (rising xs)
rising-gives [] rise = (_, refl)
rising-gives (x ∷ []) rise = (_, refl)
rising-gives (x ∷ y ∷ rest) rise =
    let above = at_most-gives (suc x) y (rise 0 (omega arith)) in
    let later = rising-gives (y ∷ rest) (rest_rises x y rest rise) in
    (rise_on x y rest above.0 later.0, λ i. where_so (above.1 i) (λ a. option_map (rise_on x y rest a) (later.1 i)))

marking-gives : (mark : Option ℕ) → ForSome mark (λ m. (1 ≤ m) × (m ≤ most_mark)) → Gives (marking mark)
marking-gives None is = (unmarked, refl)
marking-gives (Some n) is =
    let one = within-gives 1 most_mark n (is n refl) in
    (marked n one.0, ap (option_map (marked n)) one.1)

drivable-gives : (plan : Plan) → IsDrivable plan → Gives (drivable plan)
drivable-gives plan is =
    let mss = within-gives 1 most_segment_bytes plan.link_numbers.mss is.mss in
    let queue = within-gives 1 most_queue plan.link_numbers.queue is.queue in
    let delay = at_most-gives plan.link_numbers.delay_us most_delay_us is.delay in
    let timeout = within-gives 1 most_timeout_us plan.link_numbers.timeout_us is.timeout in
    let rise = rising-gives plan.loss_plan.losses is.rise in
    let mark = marking-gives plan.loss_plan.mark is.mark in
    let acks = at_most-gives plan.link_numbers.acks most_acks is.acks in
    let slots = within-gives 1 most_slots plan.agent_numbers.slots is.slots in
    let lag = at_most-gives plan.agent_numbers.lag most_lag is.lag in (
      record { mss = mss.0; queue = queue.0; delay = delay.0; timeout = timeout.0; rise = rise.0; mark = mark.0; acks = acks.0; slots = slots.0; lag = lag.0 },
      λ i. where_so (mss.1 i) (λ m. where_so (queue.1 i) (λ q. where_so (delay.1 i) (λ d. where_so (timeout.1 i) (λ t. where_so (rise.1 i) (λ r. where_so (mark.1 i) (λ k.
          where_so (acks.1 i) (λ a. where_so (slots.1 i) (λ s. where_so (lag.1 i) (λ l. Some (record { mss = m; queue = q; delay = d; timeout = t; rise = r; mark = k; acks = a; slots = s; lag = l })))))))))),
    )

-- ---- the cases

module _ (case : Case) where
  is_drivable : IsDrivable (plan_of case)
  is_drivable = record {
    mss = case.link.mss_within;
    queue = case.link.queue_within;
    delay = case.link.delay_within;
    timeout = case.link.timeout_within;
    rise = case.link.losses_rise;
    mark = case.link.mark_within;
    acks = case.acks_within;
    slots = case.slots_within;
    lag = case.lag_within;
  }

  same_case : (is : IsDrivable (plan_of case)) → driven_with case.flow (plan_of case) is ≡ driven_case case
  same_case is =
      let made = driven_with case.flow (plan_of case) is in
      λ i. record {
        flow = case.flow;
        name = case.name;
        link = same_link made.link case.link refl refl refl refl refl refl refl i;
        acks = case.acks;
        slots = case.slots;
        lag = case.lag;
        acks_within = over_prop (λ (n : ℕ). n ≤ most_acks) (λ n. hlevel le_prop) case.acks case.acks refl is.acks case.acks_within i;
        slots_within = over_prop (λ (n : ℕ). (1 ≤ n) × (n ≤ most_slots)) (λ n. hlevel (×_prop, le_prop)) case.slots case.slots refl is.slots case.slots_within i;
        lag_within = over_prop (λ (n : ℕ). n ≤ most_lag) (λ n. hlevel le_prop) case.lag case.lag refl is.lag case.lag_within i;
      }

  planned : option_map (driven_with case.flow (plan_of case)) (drivable (plan_of case)) ≡ Some (driven_case case)
  planned =
      let given = drivable-gives (plan_of case) is_drivable in
      ap (option_map (driven_with case.flow (plan_of case))) given.1 ∙ ap Some (same_case given.0)

-- what cases of flows say plans their driven cases
pub planned_all : (flow : ℕ) (cases : List Case) → AreFlowsFrom flow cases → planned_cases flow (map plan_of cases) ≡ map driven_case cases
planned_all flow [] are = refl
planned_all flow (case ∷ rest) are =
    let here : option_map (driven_with flow (plan_of case)) (drivable (plan_of case)) ≡ Some (driven_case case) =
    subst (λ n. option_map (driven_with n (plan_of case)) (drivable (plan_of case)) ≡ Some (driven_case case)) are.0 (planned case) in
    λ i. and_then (here i) (planned_all (flow + 1) rest are.1 i)
