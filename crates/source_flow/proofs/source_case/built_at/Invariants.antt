use Rattle.std.proofs.Common.{◌≡◌, length}
use Rattle.source_flow.specs.Sourced.{built_numbered}
use Rattle.source_flow.proofs.source_case.built_at.Given as goal

abbrev pub invariant-loop-first : goal.invariant-loop-first
invariant-loop-first l = built_numbered l.left l.number ≡ built_numbered l.programs l.number

abbrev pub decreases-loop-first : goal.decreases-loop-first
decreases-loop-first l = length l.left
