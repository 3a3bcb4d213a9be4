-- What the cases of a scenario say, and what their flows have of their own on a link that they share.
use Rattle.std.specs.Prelude.{◌≡◌, ℕ, ◌+◌, List, [], ◌∷◌, ⊤}
use Rattle.agent_core.specs.Kinds.{kind_of}
use Rattle.flow_core.specs.declared.case.Case.{Case}
use Rattle.shared_link.specs.declared.shared_case.FlowLink.{FlowLink}
use Rattle.scene_members.specs.declared.plan.Plan.{Plan}
use Rattle.scene_members.specs.Plans.{numbers_of}

-- what a case says, but for the start of its flow, which its link has
abbrev pub plan_of : Case → Plan
plan_of case = record {
  name = case.name;
  kind = kind_of case.agent;
  trace = case.link.trace;
  link_numbers = numbers_of case.link case.acks;
  agent_numbers = record { slots = case.slots; lag = case.lag };
  loss_plan = record { losses = case.link.losses; mark = case.link.mark };
  start_us = 0;
  programs = record { ss = case.ss.role.number; ca = case.ca.role.number };
}

-- what a flow has of its own on the link; its case's trace and queue aren't used
abbrev pub flow_link_of : Plan → FlowLink
flow_link_of plan = record {
  mss = plan.link_numbers.mss;
  delay_us = plan.link_numbers.delay_us;
  timeout_us = plan.link_numbers.timeout_us;
  losses = plan.loss_plan.losses;
  mark = plan.loss_plan.mark;
  start_us = plan.start_us;
}

-- a plan whose flow starts at once
abbrev pub at_once : Plan → Plan
at_once plan = record plan { start_us = 0 }

-- what a flow has of its own on the link, but for its start
abbrev pub link_at_once : FlowLink → FlowLink
link_at_once link = record link { start_us = 0 }

-- the cases are those of the flows from this number on, in order
abbrev pub AreFlowsFrom : ℕ → List Case → Type 0
AreFlowsFrom flow [] = ⊤
AreFlowsFrom flow (case ∷ rest) = (case.flow ≡ flow) × AreFlowsFrom (flow + 1) rest
