use Rattle.std.proofs.Common.{◌≡◌, length}
use Rattle.driven_flow.specs.Driven.{codes_of, is_known, code_in}
use Rattle.driven_flow.proofs.programs.code_among.Given as goal

abbrev pub invariant-loop-first : goal.invariant-loop-first
invariant-loop-first l =
    (is_known (codes_of l.left) l.number ≡ is_known (codes_of l.builts) l.number)
    × (code_in (codes_of l.left) l.number ≡ code_in (codes_of l.builts) l.number)

abbrev pub decreases-loop-first : goal.decreases-loop-first
decreases-loop-first l = length l.left
