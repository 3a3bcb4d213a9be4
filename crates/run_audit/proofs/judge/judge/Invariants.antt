use Rattle.std.proofs.Common.{◌≡◌, ◌+◌, ◌≤◌, length}
use Rattle.std.specs.List.{All}
use Rattle.ccp_base.specs.Limits.{most_flows}
use Rattle.reg_compiler.specs.Sources.{sources_of}
use Rattle.source_flow.specs.Sourced.{IsSourced}
use Rattle.run_audit.specs.PartLeft.{verdict_on}
use Rattle.run_audit.proofs.judge.judge.Given as goal

abbrev pub invariant-loop-case : goal.invariant-loop-case
invariant-loop-case l =
    (verdict_on (sources_of l.programs) l.todo l.flow l.left ≡ verdict_on (sources_of l.programs) l.cases 0 l.text)
    × All (IsSourced l.programs) l.todo
    × (l.flow + length l.todo ≤ most_flows)

abbrev pub decreases-loop-case : goal.decreases-loop-case
decreases-loop-case l = length l.todo
