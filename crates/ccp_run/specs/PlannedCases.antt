-- The cases of driven flows, as a function of what the cases of a scenario say.
use Rattle.std.proofs.Common.{◌≡◌, ◌⊎◌, inl, inr, ◌≤◌, ◌<◌, ℕ, zero, suc, ◌+◌, true, leb, Option, Some, None, option_map, List, [], ◌∷◌, slice_index, subst, arith}
use Rattle.std.specs.List.Sorted.{IsStrictlyIncreasing}
use Rattle.std.specs.Option.{ForSome}
use Rattle.std.proofs.lemmas.Bool.Decides.{leb_tells}
use Rattle.std.proofs.lemmas.Option.{same_Some, none-some}
use Rattle.ccp_base.specs.Limits.{most_acks, most_slots, most_lag, most_segment_bytes, most_queue, most_mark, most_delay_us, most_timeout_us}
use Rattle.scene_members.specs.declared.plan.Plan.{Plan}
use Rattle.driven_flow.specs.declared.case.DrivenCase.{DrivenCase}

-- ---- tests of ranges, each of which gives the proof

-- the first of two, if it is that one
abbrev pub first_of_two : {A B : Type 0} → A ⊎ B → Option A
first_of_two (inl is) = Some is
first_of_two (inr not) = None

-- what follows from a proof, if there is one
abbrev pub where_so : {A B : Type 0} → Option A → (A → Option B) → Option B
where_so None then = None
where_so (Some so) then = then so

abbrev pub at_most : (n most : ℕ) → Option (n ≤ most)
at_most n most = option_map (λ (is : (leb n most ≡ true) × (n ≤ most)). is.1) (first_of_two (leb_tells n most))

abbrev pub within : (least most n : ℕ) → Option ((least ≤ n) × (n ≤ most))
within least most n = where_so (at_most least n) (λ low. where_so (at_most n most) (λ high. Some (low, high)))

pub rise_on : (x y : ℕ) (rest : List ℕ) → suc x ≤ y → IsStrictlyIncreasing (y ∷ rest) → IsStrictlyIncreasing (x ∷ y ∷ rest)
rise_on x y rest above rises zero inside = above
rise_on x y rest above rises (suc k) inside =
    let one : suc (k + 1) ≡ suc k + 1 = omega arith in
    subst (λ n. slice_index (y ∷ rest) k < slice_index (x ∷ y ∷ rest) n) one (rises k (omega (arith, inside)))

-- each number is above the one before
abbrev pub rising : (xs : List ℕ) → Option (IsStrictlyIncreasing xs)
rising [] = Some (λ k inside. absurd (omega (arith, inside)))
rising (x ∷ []) = Some (λ k inside. absurd (omega (arith, inside)))
rising (x ∷ y ∷ rest) =
    where_so (at_most (suc x) y) (λ above. option_map (rise_on x y rest above) (rising (y ∷ rest)))

pub marked : (n : ℕ) → (1 ≤ n) × (n ≤ most_mark) → ForSome (Some n) (λ m. (1 ≤ m) × (m ≤ most_mark))
marked n is m same = subst (λ k. (1 ≤ k) × (k ≤ most_mark)) (same_Some n m same) is

pub unmarked : ForSome None (λ m. (1 ≤ m) × (m ≤ most_mark))
unmarked m none = absurd (none-some m none)

-- a mark, if there is one, is 1 to 4,096
abbrev pub marking : (mark : Option ℕ) → Option (ForSome mark (λ m. (1 ≤ m) × (m ≤ most_mark)))
marking None = Some unmarked
marking (Some n) = option_map (marked n) (within 1 most_mark n)

-- ---- a case

-- the ranges of what a case says of its link and its flow
pub record IsDrivable (plan : Plan) : Type 0 where
  pub mss : (1 ≤ plan.link_numbers.mss) × (plan.link_numbers.mss ≤ most_segment_bytes)
  pub queue : (1 ≤ plan.link_numbers.queue) × (plan.link_numbers.queue ≤ most_queue)
  pub delay : plan.link_numbers.delay_us ≤ most_delay_us
  pub timeout : (1 ≤ plan.link_numbers.timeout_us) × (plan.link_numbers.timeout_us ≤ most_timeout_us)
  pub rise : IsStrictlyIncreasing plan.loss_plan.losses
  pub mark : ForSome plan.loss_plan.mark (λ m. (1 ≤ m) × (m ≤ most_mark))
  pub acks : plan.link_numbers.acks ≤ most_acks
  pub slots : (1 ≤ plan.agent_numbers.slots) × (plan.agent_numbers.slots ≤ most_slots)
  pub lag : plan.agent_numbers.lag ≤ most_lag

-- what a case says is within these ranges; what the text of a scenario says always is
abbrev pub drivable : (plan : Plan) → Option (IsDrivable plan)
drivable plan =
    where_so (within 1 most_segment_bytes plan.link_numbers.mss) (λ mss.
    where_so (within 1 most_queue plan.link_numbers.queue) (λ queue.
    where_so (at_most plan.link_numbers.delay_us most_delay_us) (λ delay.
    where_so (within 1 most_timeout_us plan.link_numbers.timeout_us) (λ timeout.
    where_so (rising plan.loss_plan.losses) (λ rise.
    where_so (marking plan.loss_plan.mark) (λ mark.
    where_so (at_most plan.link_numbers.acks most_acks) (λ acks.
    where_so (within 1 most_slots plan.agent_numbers.slots) (λ slots.
    where_so (at_most plan.agent_numbers.lag most_lag) (λ lag.
    Some (record {
      mss = mss;
      queue = queue;
      delay = delay;
      timeout = timeout;
      rise = rise;
      mark = mark;
      acks = acks;
      slots = slots;
      lag = lag;
    }))))))))))

-- the driven case of the flow with this number that says this
abbrev pub driven_with : ℕ → (plan : Plan) → IsDrivable plan → DrivenCase
driven_with flow plan is = record {
  flow = flow;
  name = plan.name;
  link = record {
    trace = plan.trace;
    mss = plan.link_numbers.mss;
    queue = plan.link_numbers.queue;
    delay_us = plan.link_numbers.delay_us;
    timeout_us = plan.link_numbers.timeout_us;
    losses = plan.loss_plan.losses;
    mark = plan.loss_plan.mark;
    mss_within = is.mss;
    queue_within = is.queue;
    delay_within = is.delay;
    timeout_within = is.timeout;
    losses_rise = is.rise;
    mark_within = is.mark;
  };
  acks = plan.link_numbers.acks;
  slots = plan.agent_numbers.slots;
  lag = plan.agent_numbers.lag;
  acks_within = is.acks;
  slots_within = is.slots;
  lag_within = is.lag;
}

-- a case, if there is one, before the others
abbrev pub and_then : Option DrivenCase → List DrivenCase → List DrivenCase
and_then None cases = cases
and_then (Some case) cases = case ∷ cases

-- the driven cases of flows with the numbers from this one on, of which these are said
abbrev pub planned_cases : ℕ → List Plan → List DrivenCase
planned_cases flow [] = []
planned_cases flow (plan ∷ rest) =
    and_then (option_map (driven_with flow plan) (drivable plan)) (planned_cases (flow + 1) rest)
