use Rattle.std.proofs.Common.{◌≡◌, length}
use Rattle.live_lines.specs.FaultPlaces.{program_places}
use Rattle.live_lines.proofs.places.program_places.Given as goal

abbrev pub invariant-loop-program : goal.invariant-loop-program
invariant-loop-program l =
    program_places l.left l.number ≡ program_places l.programs l.number

abbrev pub decreases-loop-program : goal.decreases-loop-program
decreases-loop-program l = length l.left
