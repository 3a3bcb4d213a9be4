use Rattle.std.proofs.Common.{rules, ◌∙◌, ◌<◌, ap₂, sym, length}
use Rattle.ccp_base.specs.declared.parts.Separator.TheVariants.{Blank}
use Rattle.ccp_base.specs.Parts.{parts_of}
use Rattle.fold_run.specs.AckLine.{with_each_word}
use Rattle.fold_run.proofs.FirstWord.{words_step}
use Rattle.fold_run.proofs.ack_line.read_words.Goals as goal

pub loop-left-preserved : goal.loop-left-preserved
loop-left-preserved c =
    let some : 0 < length c.loop-left.left.now = search rules in
    let same =
    ap₂ (λ values rest. with_each_word values (parts_of Blank rest)) (sym c.in-Some.ensures.word) c.in-Some.ensures.after
    ∙ sym (words_step c.loop-left.values c.loop-left.left.now some)
    ∙ c.loop-left.invariant.0 in
    (same, c.read_word.ensures.before)
