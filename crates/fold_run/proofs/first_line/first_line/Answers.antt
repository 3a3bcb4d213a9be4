use Rattle.std.proofs.Common.{◌∷◌, ◌∙◌, sym, ap, take, drop, length, add-one, ◌+◌}
use Rattle.std.proofs.Math.Seq.{drop-length}
use Rattle.std.proofs.lemmas.List.{take_rest}
use Rattle.ccp_base.specs.declared.parts.Separator.TheVariants.{LineFeed}
use Rattle.ccp_base.specs.Parts.{parts_of}
use Rattle.fold_run.specs.FirstPart.{after_separator}
use Rattle.fold_run.proofs.FirstLine.{parts-first, no-line-feed, at-line-feed}
use Rattle.fold_run.proofs.first_line.first_line.Goals as goal

pub returns-in-None-clause-line : goal.returns-in-None-clause-line
returns-in-None-clause-line c = sym (no-line-feed c.args.text.now c.in-None.ensures).0

pub returns-in-None-clause-after : goal.returns-in-None-clause-after
returns-in-None-clause-after c =
    take_rest c.args.text.now (length c.args.text.now) ∙ drop-length c.args.text.now ∙ sym (no-line-feed c.args.text.now c.in-None.ensures).1

pub returns-in-None-clause-parts : goal.returns-in-None-clause-parts
returns-in-None-clause-parts c =
    parts-first LineFeed c.args.text.now c.requires
    ∙ ap (λ line. line ∷ parts_of LineFeed (after_separator LineFeed c.args.text.now)) (sym (returns-in-None-clause-line c))
    ∙ ap (λ rest. c.args.text.now ∷ parts_of LineFeed rest) (sym (returns-in-None-clause-after c))

pub returns-in-Some-clause-line : goal.returns-in-Some-clause-line
returns-in-Some-clause-line c =
    sym (at-line-feed c.args.text.now c.in-Some.at c.in-Some.ensures.0.high c.in-Some.ensures.0.before c.in-Some.ensures.1).0

pub returns-in-Some-clause-after : goal.returns-in-Some-clause-after
returns-in-Some-clause-after c =
    take_rest c.args.text.now (c.in-Some.at + 1)
    ∙ ap (λ n. drop n c.args.text.now) (add-one c.in-Some.at)
    ∙ sym (at-line-feed c.args.text.now c.in-Some.at c.in-Some.ensures.0.high c.in-Some.ensures.0.before c.in-Some.ensures.1).1

pub returns-in-Some-clause-parts : goal.returns-in-Some-clause-parts
returns-in-Some-clause-parts c =
    parts-first LineFeed c.args.text.now c.requires
    ∙ ap (λ line. line ∷ parts_of LineFeed (after_separator LineFeed c.args.text.now)) (sym (returns-in-Some-clause-line c))
    ∙ ap (λ rest. take c.in-Some.at c.args.text.now ∷ parts_of LineFeed rest) (sym (returns-in-Some-clause-after c))
