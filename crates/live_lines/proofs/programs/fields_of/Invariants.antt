use Rattle.std.proofs.Common.{◌≡◌, length}
use Rattle.flow_core.specs.LiveText.{fields_at, sources_of}
use Rattle.live_lines.proofs.programs.fields_of.Given as goal

abbrev pub invariant-loop-program : goal.invariant-loop-program
invariant-loop-program l =
    fields_at (sources_of l.left) l.number ≡ fields_at (sources_of l.programs) l.number

abbrev pub decreases-loop-program : goal.decreases-loop-program
decreases-loop-program l = length l.left
