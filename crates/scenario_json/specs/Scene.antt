-- A scenario: its programs, its traces and its cases, or the first refusal in the order of the text's parts.
use Rattle.std.specs.Prelude.{ℕ, Result, Ok, List, map}
use Rattle.serde_json.specs.Data.{Data}
use Rattle.ccp_base.specs.Chaining.{then_do}
use Rattle.scene_members.specs.declared.key.Key.TheVariants as key
use Rattle.scene_members.specs.declared.mode.SceneMode.{SceneMode}
use Rattle.scene_members.specs.declared.plan.Plan.{Plan}
use Rattle.scene_members.specs.CaseWalk.{Table}
use Rattle.scene_members.specs.Traces.{traces_in}
use Rattle.scene_members.specs.Values.{member_of}
use Rattle.scene_members.specs.Whole.{value_of_bytes, opening_in, cases_in}
use Rattle.scene_core.specs.CasePlans.{at_once}
use Rattle.scene_faults.specs.declared.fault.SceneFault.{SceneFault}
use Rattle.scene_faults.specs.MemberFaults.{in_scene}
use Rattle.reg_compiler.specs.Sources.{Sources}
use Rattle.scenario_json.specs.ScenePrograms.{all_programs}

-- what a scenario says: its programs with their numbers, its traces by name, and its cases; case i is flow i
pub record SceneParts : Type 0 where
  pub programs : Sources
  pub traces : Table
  pub cases : List Plan

abbrev pub parts_with : Sources → Table → List Plan → SceneParts
parts_with programs traces cases = record { programs = programs; traces = traces; cases = cases }

-- the scene that is run: the cases have their traces
pub record Scene : Type 0 where
  pub programs : Sources
  pub cases : List Plan

abbrev pub scene_with : Sources → List Plan → Scene
scene_with programs cases = record { programs = programs; cases = cases }

-- the scene of what is said: when a flow starts is no part of it, since the flow's link has that
abbrev pub scene_of_parts : SceneParts → Scene
scene_of_parts parts = scene_with parts.programs (map at_once parts.cases)

-- what a value says
abbrev pub parts_in : SceneMode → Data → Result SceneParts SceneFault
parts_in mode whole =
    then_do (in_scene (opening_in whole)) (λ version.
    then_do (all_programs (member_of key.Programs whole)) (λ programs.
    then_do (in_scene (traces_in whole)) (λ traces.
    then_do (in_scene (cases_in mode programs.1 traces whole)) (λ cases. Ok (parts_with programs.0 traces cases)))))

-- the scene of a text
abbrev pub scene_of : SceneMode → List ℕ → Result Scene SceneFault
scene_of mode text =
    then_do (in_scene (value_of_bytes text)) (λ whole.
    then_do (parts_in mode whole) (λ parts. Ok (scene_of_parts parts)))
