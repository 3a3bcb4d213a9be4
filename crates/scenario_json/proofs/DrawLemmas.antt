-- What the generator draws: its traces say their times, its names are names, one plan more is drawn, all flows start at
-- once, and the scenario that is put together of them is the generated one.
use Rattle.std.proofs.Common.{◌≡◌, ℕ, zero, suc, ◌-◌, ◌<◌, ◌≤◌, ◌^◌, List, [], ◌∷◌, ◌++◌, Result, Ok, Err, IfOk, Some, length, map, codes, refl, ap, ◌∙◌, arith}
use Rattle.std.proofs.lemmas.Bool.{le-leb}
use Rattle.std.proofs.lemmas.Fmt.{length-decimal-le}
use Rattle.std.proofs.lemmas.List.{map_push}
use Rattle.std.specs.Fmt.{decimal}
use Rattle.ccp_base.specs.Limits.{most_flows}
use Rattle.ccp_base.specs.Named.{as_name}
use Rattle.ccp_base.specs.declared.outside.NoMemory.{NoMemory}
use Rattle.ccp_base.specs.Text.{◌⧺◌}
use Rattle.link_model.specs.TraceText.{trace_of}
use Rattle.reg_compiler.specs.Sources.{sources_of}
use Rattle.reg_compiler.specs.declared.built.Built.{Built}
use Rattle.scenario_json.specs.Scene.{scene_with}
use Rattle.scenario_json.specs.ScenePrograms.{built_ins}
use Rattle.scenario_json.specs.Soak.{text_at, times_at, drawn_plan, drawn_plans, gen}
use Rattle.scene_members.specs.declared.plan.Plan.{Plan}
use Rattle.scene_core.specs.CasePlans.{plan_of, at_once}
use Rattle.scene_core.specs.declared.scene.Scenario.{Scenario}

-- the texts of the generated traces say their times
pub text_read : (choice : ℕ) → trace_of (text_at choice) ≡ Ok (times_at choice)
text_read zero = refl
text_read (suc zero) = refl
text_read (suc (suc zero)) = refl
text_read (suc (suc (suc n))) = refl

held : (text : List ℕ) → 1 ≤ length text → length text ≤ 64 → as_name text ≡ Some text
held text some short = rw (le-leb 1 (length text) some) (rw (le-leb (length text) 64 short) refl)

-- the generated names are names
pub name_named : (i : ℕ) → i < 2 ^ 64 → as_name (codes "s" ⧺ decimal i) ≡ Some (codes "s" ⧺ decimal i)
name_named i small =
    let digits : length (decimal i) ≤ 20 = length-decimal-le 20 i (omega arith) (omega (arith, small)) small in
    held (codes "s" ⧺ decimal i) (omega arith) (omega (arith, digits))

pub plans_done : (done : List Plan) (x : ℕ) → drawn_plans 0 done x ≡ done
unfolding drawn_plans
plans_done done x = refl

pub plans_more : (left : ℕ) (done : List Plan) (x : ℕ) → 0 < left
    → drawn_plans left done x ≡ drawn_plans (left - 1) (done ++ (drawn_plan (length done) x).0 ∷ []) (drawn_plan (length done) x).1
unfolding drawn_plans
plans_more zero done x some = absurd (omega arith)
plans_more (suc left) done x some =
    let same : suc left - 1 ≡ left = omega arith in rw same refl

plans_at_once : (left : ℕ) (done : List Plan) (x : ℕ) → map at_once done ≡ done → map at_once (drawn_plans left done x) ≡ drawn_plans left done x
unfolding drawn_plans
plans_at_once zero done x is = is
plans_at_once (suc left) done x is =
    let next = drawn_plan (length done) x in
    plans_at_once left (done ++ next.0 ∷ []) next.1 (map_push at_once done next.0 ∙ ap (λ plans. plans ++ next.0 ∷ []) is)

-- the flows of the generated scenario start at once
pub all_at_once : (number : ℕ) → map at_once (drawn_plans most_flows [] number) ≡ drawn_plans most_flows [] number
all_at_once number = plans_at_once most_flows [] number refl

-- the scenario that is put together of the built-in programs and the drawn plans
pub generated : (result : Result Scenario NoMemory) (programs : List (ℕ × Built)) (plans : List Plan) (number : ℕ) → IfOk result (λ s. s.programs ≡ programs)
    → IfOk result (λ s. map plan_of s.cases ≡ map at_once plans) → sources_of programs ≡ built_ins → plans ≡ drawn_plans most_flows [] number
    → IfOk result (λ s. scene_with (sources_of s.programs) (map plan_of s.cases) ≡ gen number)
generated (Ok s) programs plans number same put forms drawn =
    ap (λ ps. scene_with (sources_of ps) (map plan_of s.cases)) same ∙ ap (λ fs. scene_with fs (map plan_of s.cases)) forms
    ∙ ap (scene_with built_ins) (put ∙ ap (map at_once) drawn ∙ all_at_once number)
generated (Err e) programs plans number same put forms drawn = tt
