use Rattle.std.proofs.Common.{◌≡◌, ◌-◌, ◌≤◌, ◌++◌, drop, length}
use Rattle.agent_core.specs.Kinds.{built_in_count}
use Rattle.portus_build.specs.Builtins.{builtins}
use Rattle.scene_core.specs.CompiledPrograms.{AreCompiled}
use Rattle.scenario_json.specs.Cases.{AreNumberedFrom}
use Rattle.reg_compiler.specs.Sources.{sources_of}
use Rattle.scenario_json.specs.ScenePrograms.{built_ins, built_ins_from}
use Rattle.scenario_json.proofs.scene_programs.put_built_ins.Given as goal

abbrev pub invariant-loop-number : goal.invariant-loop-number
invariant-loop-number l =
    (sources_of l.builts ++ built_ins_from l.number (drop l.number builtins) ≡ built_ins)
    × AreNumberedFrom 0 l.builts
    × (length l.builts ≡ l.number)
    × (l.number ≤ built_in_count)
    × AreCompiled l.builts

abbrev pub decreases-loop-number : goal.decreases-loop-number
decreases-loop-number l = built_in_count - l.number
