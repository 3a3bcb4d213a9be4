use Rattle.std.proofs.Common.{◌≡◌, ◌++◌, length}
use Rattle.driven_flow.specs.DrivenText.{further_values}
use Rattle.driven_flow.proofs.timeline.put_further_values.Given as goal

abbrev pub invariant-loop-pair : goal.invariant-loop-pair
invariant-loop-pair l = l.text ++ further_values l.left ≡ l.initial.text ++ further_values l.values

abbrev pub decreases-loop-pair : goal.decreases-loop-pair
decreases-loop-pair l = length l.left
