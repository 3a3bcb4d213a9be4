-- A scenario of flows on one shared link: the scene that is run with what the link is, or the first refusal.
use Rattle.std.specs.Prelude.{ℕ, Result, Ok, List, map}
use Rattle.ccp_base.specs.Chaining.{then_do}
use Rattle.shared_link.specs.declared.shared_case.SharedCase.{SharedCase}
use Rattle.scene_core.specs.CasePlans.{flow_link_of}
use Rattle.scene_members.specs.declared.mode.SceneMode.TheVariants.{Shared}
use Rattle.scene_members.specs.declared.plan.Plan.{Plan}
use Rattle.scene_members.specs.declared.shared.Shares.{Shares}
use Rattle.scene_members.specs.SharedMembers.{shares_in}
use Rattle.scene_members.specs.Whole.{value_of_bytes}
use Rattle.scene_faults.specs.declared.fault.SceneFault.{SceneFault}
use Rattle.scene_faults.specs.MemberFaults.{in_scene}
use Rattle.scenario_json.specs.Scene.{Scene, SceneParts, scene_of_parts, parts_in}

-- the scene that is run, the link that its flows share, and the most rounds
pub record SharedParts : Type 0 where
  pub scene : Scene
  pub link : SharedCase
  pub rounds : ℕ

abbrev pub shared_with : Scene → SharedCase → ℕ → SharedParts
shared_with scene link rounds = record { scene = scene; link = link; rounds = rounds }

-- ---- the link

abbrev pub shared_case : Shares → List Plan → SharedCase
shared_case shares plans = record {
  trace = shares.trace;
  queue = shares.queue;
  quantum_us = shares.quantum_us;
  flows = map flow_link_of plans;
}

-- ---- the whole

-- the scene with its link
abbrev pub shared_of : SceneParts → Shares → SharedParts
shared_of parts shares = shared_with (scene_of_parts parts) (shared_case shares parts.cases) shares.rounds

-- the refusals of programs, traces and cases come first, then those of the link
abbrev pub shared_scene_of : List ℕ → Result SharedParts SceneFault
shared_scene_of text =
    then_do (in_scene (value_of_bytes text)) (λ whole.
    then_do (parts_in Shared whole) (λ parts.
    then_do (in_scene (shares_in parts.traces whole)) (λ shares. Ok (shared_of parts shares))))
