-- What a part that was read says, in the words of the scenario's definition.
use Rattle.std.specs.Prelude.{ℕ, List}
use Rattle.scene_members.specs.Traces.{table_of}
use Rattle.scenario_json.specs.declared.parsed_scene.ParsedScene.{ParsedScene}
use Rattle.scenario_json.specs.declared.scene_programs.SceneProgramList.{SceneProgramList}
use Rattle.scenario_json.specs.Scene.{SceneParts, parts_with}
use Rattle.reg_compiler.specs.Sources.{Sources, sources_of}

-- programs with their numbers, and the names of those that the scenario names
abbrev pub programs_said : SceneProgramList → Sources × List (List ℕ)
programs_said list = (sources_of list.builts, list.names)

abbrev pub parts_said : ParsedScene → SceneParts
parts_said scene = parts_with (sources_of scene.programs.builts) (table_of scene.traces.entries) scene.plans
