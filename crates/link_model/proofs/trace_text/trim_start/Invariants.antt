use Rattle.std.proofs.Common.{◌≡◌, length}
use Rattle.link_model.specs.TraceText.{without_first_blanks}
use Rattle.link_model.proofs.trace_text.trim_start.Given as goal

abbrev pub invariant-loop-first : goal.invariant-loop-first
invariant-loop-first l = without_first_blanks l.rest ≡ without_first_blanks l.bytes

abbrev pub decreases-loop-first : goal.decreases-loop-first
decreases-loop-first l = length l.rest
