use Rattle.std.proofs.Common.{◌≡◌, ◌++◌, length, map}
use Rattle.flow_core.specs.LiveText.{fault_lines}
use Rattle.live_lines.specs.FaultPlaces.{placed}
use Rattle.live_lines.proofs.places.put_fault_lines.Given as goal

abbrev pub invariant-loop-notice : goal.invariant-loop-notice
invariant-loop-notice g l =
    l.text ++ fault_lines (map (placed (g.P.Places.placing l.places)) l.left)
    ≡ l.initial.text ++ fault_lines (map (placed (g.P.Places.placing l.places)) l.faults)

abbrev pub decreases-loop-notice : goal.decreases-loop-notice
decreases-loop-notice g l = length l.left
