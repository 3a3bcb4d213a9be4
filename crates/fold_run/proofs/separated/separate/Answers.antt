use Rattle.std.proofs.Common.{◌∷◌, ◌≡◌, ◌∙◌, ◌+◌, ap, sym, length, arith}
use Rattle.std.specs.List.{position_or_len}
use Rattle.ccp_base.specs.declared.parts.Separator.TheVariants.{LineFeed}
use Rattle.ccp_base.specs.Parts.{parts_of}
use Rattle.fold_run.specs.FirstPart.{after_separator}
use Rattle.fold_run.specs.Separated.{is_separator}
use Rattle.fold_run.proofs.SeparatedLemmas.{after_lines-next, past-line, at-line, cut-found}
use Rattle.fold_run.proofs.separated.separate.Goals as goal

pub returns-then-is_separator-clause-found : goal.returns-then-is_separator-clause-found
returns-then-is_separator-clause-found c =
    let so_far = c.loop-left.invariant in
    let text = c.args.text.now in
    let line = c.first_line.result.0.now in
    let after = c.first_line.result.1.now in
    let parts : parts_of LineFeed c.loop-left.left.now ≡ line ∷ parts_of LineFeed after = c.first_line.ensures.parts in
    let at_front : position_or_len is_separator (line ∷ parts_of LineFeed after) ≡ 0 = at-line line (parts_of LineFeed after) (sym c.is_separator.ensures.separator ∙ c.if-is_separator.true) in
    let front = ap (position_or_len is_separator) parts ∙ at_front in
    let count = ap length parts in
    cut-found text c.loop-left.left.now after c.loop-left.before (omega (arith, so_far.first, front)) (omega (arith, so_far.lines, count)) so_far.left c.first_line.ensures.after

pub loop-left-preserved : goal.loop-left-preserved
loop-left-preserved c =
    let so_far = c.loop-left.invariant in
    let text = c.args.text.now in
    let line = c.first_line.result.0.now in
    let after = c.first_line.result.1.now in
    let parts : parts_of LineFeed c.loop-left.left.now ≡ line ∷ parts_of LineFeed after = c.first_line.ensures.parts in
    let past : position_or_len is_separator (line ∷ parts_of LineFeed after) ≡ 1 + position_or_len is_separator (parts_of LineFeed after) = past-line line (parts_of LineFeed after) (sym c.is_separator.ensures.separator ∙ c.if-is_separator.false) in
    let front = ap (position_or_len is_separator) parts ∙ past in
    let count = ap length parts in
    record {
      left = c.first_line.ensures.after ∙ ap (after_separator LineFeed) so_far.left ∙ sym (after_lines-next c.loop-left.before text);
      first = omega (arith, so_far.first, front);
      lines = omega (arith, so_far.lines, count);
      room = omega arith;
    }
