use Rattle.std.proofs.Common.{◌≡◌, ◌≤◌, ◌+◌, ◌++◌, length}
use Rattle.serde_json.specs.View.{members_view}
use Rattle.serde_json.specs.Events.{members_len}
use Rattle.ccp_base.specs.Limits.{most_named_programs}
use Rattle.agent_core.specs.Kinds.{built_in_count}
use Rattle.scene_core.specs.CompiledPrograms.{AreCompiled}
use Rattle.scenario_json.specs.Cases.{AreNumberedFrom}
use Rattle.reg_compiler.specs.Sources.{sources_of}
use Rattle.scenario_json.specs.ScenePrograms.{programs_from, names_of}
use Rattle.scenario_json.proofs.scene_programs.put_programs.Given as goal

abbrev pub invariant-loop-name : goal.invariant-loop-name
invariant-loop-name l =
    (programs_from (sources_of l.builts) (members_view l.name-iterator) ≡ programs_from (sources_of l.initial.builts) (members_view l.members.entries))
    × (l.names ++ names_of (members_view l.name-iterator) ≡ l.initial.names ++ names_of (members_view l.members.entries))
    × AreNumberedFrom 0 l.builts
    × (length l.builts ≡ length l.names + built_in_count)
    × (length l.names + members_len (members_view l.name-iterator) ≤ most_named_programs)
    × AreCompiled l.builts
