use Rattle.std.proofs.Common.{◌≡◌, ◌≤◌, Some, length}
use Rattle.ccp_base.specs.declared.parts.Separator.TheVariants.{Blank}
use Rattle.ccp_base.specs.Limits.{primitive_count}
use Rattle.ccp_base.specs.Parts.{parts_of}
use Rattle.fold_run.specs.AckLine.{with_each_word}
use Rattle.fold_run.proofs.ack_line.read_words.Given as goal

abbrev pub invariant-loop-left : goal.invariant-loop-left
invariant-loop-left l =
    (with_each_word (Some l.values) (parts_of Blank l.left) ≡ with_each_word (Some l.initial.values) (parts_of Blank l.line))
    × (l.before ≤ primitive_count)

abbrev pub decreases-loop-left : goal.decreases-loop-left
decreases-loop-left l = length l.left
