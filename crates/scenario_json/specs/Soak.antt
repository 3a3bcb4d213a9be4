-- The generated scenario of a number: 64 cases of the built-in programs, by draws in a fixed order.
use Rattle.std.specs.Prelude.{ℕ, zero, suc, ◌+◌, ◌*◌, ◌/◌, ◌%◌, ◌^◌, None, List, [], ◌∷◌, ◌++◌, length, codes, decimal}
use Rattle.ccp_base.specs.Text.{◌⧺◌}
use Rattle.ccp_base.specs.Limits.{most_flows}
use Rattle.agent_core.specs.declared.kind.Kind.{Kind}
use Rattle.agent_core.specs.declared.kind.Kind.TheVariants.{Reno, Cubic}
use Rattle.agent_core.specs.Kinds.{avoidance_of}
use Rattle.scene_members.specs.declared.plan.LinkNumbers.{LinkNumbers}
use Rattle.scene_members.specs.declared.plan.AgentNumbers.{AgentNumbers}
use Rattle.scene_members.specs.declared.plan.Plan.{Plan}
use Rattle.scenario_json.specs.ScenePrograms.{built_ins}
use Rattle.scenario_json.specs.Scene.{Scene, scene_with}

-- the number that is drawn from, after a draw
abbrev pub stepped : ℕ → ℕ
stepped x = (x * 6364136223846793005 + 1442695040888963407) % 2 ^ 64

-- a draw of this many, and what is drawn from after it
abbrev pub draw : ℕ → ℕ → ℕ × ℕ
draw many x = ((stepped x / 2 ^ 33) % many, stepped x)

-- a size of segments, in bytes
abbrev pub segment : ℕ → ℕ
segment zero = 536
segment (suc zero) = 1448
segment (suc (suc n)) = 8948

-- acknowledgements, size of segments, queue and delay
abbrev pub drawn_link_numbers : ℕ → LinkNumbers × ℕ
drawn_link_numbers x =
    let acks = draw 2001 x in
    let mss = draw 3 acks.1 in
    let queue = draw 200 mss.1 in
    let delay = draw 100 queue.1 in (
      record {
        mss = segment mss.0;
        queue = 5 + queue.0;
        delay_us = 1000 * (5 + delay.0);
        timeout_us = 1000000;
        acks = 2000 + acks.0;
      },
      delay.1,
    )

-- this many losses more, each above the one before
abbrev pub drawn_losses : ℕ → ℕ → List ℕ → ℕ → List ℕ × ℕ
drawn_losses zero before done x = (done, x)
drawn_losses (suc left) before done x =
    let more = draw 500 x in
    drawn_losses left (before + (50 + more.0)) (done ++ (before + (50 + more.0)) ∷ []) more.1

-- a number of losses, then the losses
abbrev pub drawn_loss_plan : ℕ → List ℕ × ℕ
drawn_loss_plan x = let count = draw 8 x in drawn_losses count.0 0 [] count.1

abbrev pub drawn_agent_numbers : ℕ → AgentNumbers × ℕ
drawn_agent_numbers x =
    let slots = draw 4 x in
    let lag = draw 20 slots.1 in (record { slots = 1 + slots.0; lag = lag.0 }, lag.1)

abbrev pub kind_at : ℕ → Kind
kind_at zero = Reno
kind_at (suc n) = Cubic

-- a trace's times, in milliseconds
abbrev pub times_at : ℕ → List ℕ
times_at zero = 1 ∷ []
times_at (suc zero) = 2 ∷ 3 ∷ []
times_at (suc (suc zero)) = 1 ∷ 1 ∷ 5 ∷ []
times_at (suc (suc (suc n))) = 10 ∷ []

-- the text of that trace, one time a line
abbrev pub text_at : ℕ → List ℕ
text_at zero = codes "1\n"
text_at (suc zero) = codes "2\n3\n"
text_at (suc (suc zero)) = codes "1\n1\n5\n"
text_at (suc (suc (suc n))) = codes "10\n"

-- the case of this number, and what is drawn from after it
abbrev pub drawn_plan : ℕ → ℕ → Plan × ℕ
drawn_plan i x =
    let link_numbers = drawn_link_numbers x in
    let losses = drawn_loss_plan link_numbers.1 in
    let agent_numbers = drawn_agent_numbers losses.1 in
    let kind = draw 2 agent_numbers.1 in
    let trace = draw 4 kind.1 in (
      record {
        name = codes "s" ⧺ decimal i;
        kind = kind_at kind.0;
        trace = times_at trace.0;
        link_numbers = link_numbers.0;
        agent_numbers = agent_numbers.0;
        loss_plan = record { losses = losses.0; mark = None };
        start_us = 0;
        programs = record { ss = 0; ca = avoidance_of (kind_at kind.0) };
      },
      trace.1,
    )

-- this many cases more, after those that are done
unfoldable pub drawn_plans : ℕ → List Plan → ℕ → List Plan
drawn_plans zero done x = done
drawn_plans (suc left) done x =
    let next = drawn_plan (length done) x in drawn_plans left (done ++ next.0 ∷ []) next.1

-- the generated scene of a number
abbrev pub gen : ℕ → Scene
gen number = scene_with built_ins (drawn_plans most_flows [] number)
