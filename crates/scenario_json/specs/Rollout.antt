-- The scenario of a rollout: what the members of its text say, or the text's first refusal.
use Rattle.std.specs.Prelude.{ℕ, Result, List}
use Rattle.ccp_base.specs.Chaining.{then_do}
use Rattle.scene_members.specs.Rollout.{OpenPlan, open_plans_in}
use Rattle.scene_members.specs.Whole.{value_of_bytes}
use Rattle.scene_faults.specs.declared.fault.SceneFault.{SceneFault}
use Rattle.scene_faults.specs.MemberFaults.{in_scene}

-- the scene of a text
abbrev pub rollout_of : List ℕ → Result (List OpenPlan) SceneFault
rollout_of text = then_do (in_scene (value_of_bytes text)) (λ whole. in_scene (open_plans_in whole))
