use Rattle.std.proofs.Common.{◌≡◌, length}
use Rattle.link_model.specs.TraceText.{without_last_blanks}
use Rattle.link_model.proofs.trace_text.trim_end.Given as goal

abbrev pub invariant-loop-last : goal.invariant-loop-last
invariant-loop-last l = without_last_blanks l.rest ≡ without_last_blanks l.bytes

abbrev pub decreases-loop-last : goal.decreases-loop-last
decreases-loop-last l = length l.rest
