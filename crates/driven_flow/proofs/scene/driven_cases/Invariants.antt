use Rattle.std.proofs.Common.{◌≡◌, ◌++◌, ◌+◌, length, map}
use Rattle.driven_flow.specs.DrivenCases.{driven_case}
use Rattle.driven_flow.proofs.scene.driven_cases.Given as goal

abbrev pub invariant-loop-case : goal.invariant-loop-case
invariant-loop-case l =
    (l.driven ++ map driven_case l.rest ≡ map driven_case l.cases) × (length l.driven + length l.rest ≡ length l.cases)

abbrev pub decreases-loop-case : goal.decreases-loop-case
decreases-loop-case l = length l.rest
