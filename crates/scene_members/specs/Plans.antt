-- What a case says of its link, and the ranges of what it says.
use Rattle.std.specs.Prelude.{◌≡◌, ℕ, ◌≤◌, ◌<◌}
use Rattle.std.specs.Option.{ForSome}
use Rattle.std.specs.List.Sorted.{IsStrictlyIncreasing}
use Rattle.ccp_base.specs.Limits.{most_acks, most_slots, most_lag, most_segment_bytes, most_queue, most_mark, most_delay_us, most_timeout_us}
use Rattle.link_model.specs.declared.link_case.LinkCase.{LinkCase}
use Rattle.scene_members.specs.declared.mode.SceneMode.{SceneMode}
use Rattle.scene_members.specs.declared.mode.SceneMode.TheVariants.{Shared}
use Rattle.scene_members.specs.declared.plan.LinkNumbers.{LinkNumbers}
use Rattle.scene_members.specs.declared.plan.AgentNumbers.{AgentNumbers}
use Rattle.scene_members.specs.declared.plan.Plan.{Plan}
use Rattle.scene_members.specs.Keys.{most_start_us}

-- the numbers of a link on which this many acknowledgements come
abbrev pub numbers_of : LinkCase → ℕ → LinkNumbers
numbers_of link acks = record {
  mss = link.mss;
  queue = link.queue;
  delay_us = link.delay_us;
  timeout_us = link.timeout_us;
  acks = acks;
}

pub record AreLinkNumbers (m : LinkNumbers) : Type 0 where
  pub mss_least : 1 ≤ m.mss
  pub mss_most : m.mss ≤ most_segment_bytes
  pub queue_least : 1 ≤ m.queue
  pub queue_most : m.queue ≤ most_queue
  pub delay_most : m.delay_us ≤ most_delay_us
  pub timeout_least : 1 ≤ m.timeout_us
  pub timeout_most : m.timeout_us ≤ most_timeout_us
  pub acks_most : m.acks ≤ most_acks

pub record AreAgentNumbers (w : AgentNumbers) : Type 0 where
  pub slots_least : 1 ≤ w.slots
  pub slots_most : w.slots ≤ most_slots
  pub lag_most : w.lag ≤ most_lag

-- when a case's flow starts: flows that share a link may start later, all others start at once
abbrev pub IsStart : SceneMode → ℕ → Type 0
IsStart Shared start_us = start_us ≤ most_start_us
IsStart mode start_us = start_us ≡ 0

-- the ranges of a case if the scenario has this number of programs
pub record IsPlan (count : ℕ) (p : Plan) : Type 0 where
  pub link_numbers : AreLinkNumbers p.link_numbers
  pub agent_numbers : AreAgentNumbers p.agent_numbers
  pub rise : IsStrictlyIncreasing p.loss_plan.losses
  pub mark : ForSome p.loss_plan.mark (λ m. (1 ≤ m) × (m ≤ most_mark))
  pub ss : p.programs.ss < count
  pub ca : p.programs.ca < count
