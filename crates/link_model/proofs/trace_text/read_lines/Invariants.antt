use Rattle.std.proofs.Common.{◌+◌, ◌<◌, ◌≤◌, length}
use Rattle.ccp_base.specs.Parts.{parts_of}
use Rattle.link_model.proofs.TraceTextLemmas.{IsReadingOf}
use Rattle.ccp_base.specs.declared.parts.Separator.TheVariants as separator
use Rattle.link_model.proofs.trace_text.read_lines.Given as goal

abbrev pub invariant-loop-rest : goal.invariant-loop-rest
invariant-loop-rest l =
    IsReadingOf (parts_of separator.LineFeed l.text) (parts_of separator.LineFeed l.rest) l.reading.times.items l.reading.refused l.reading.count l.reading.before l.reading.line l.reading.fall
    × (l.reading.count < l.reading.line)
    × (l.reading.line + length l.rest ≤ length l.text + 1)

abbrev pub decreases-loop-rest : goal.decreases-loop-rest
decreases-loop-rest l = length l.rest
