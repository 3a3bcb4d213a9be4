use Rattle.std.proofs.Common.{◌<◌, eqb, length, ap, sym, ◌∙◌, arith}
use Rattle.link_model.proofs.LossLemmas.{is_listed-here, is_listed-past}
use Rattle.link_model.proofs.rules.is_at.Goals as goal

pub returns-then-place-losses : goal.returns-then-place-losses
returns-then-place-losses c = sym (is_listed-past c.args.number c.args.losses.now c.args.place c.if-place-losses.true c.requires.before)

pub returns : goal.returns
returns c =
    let within : c.args.place < length c.args.losses.now = omega (arith, c.if-place-losses.false) in
    ap (λ n. eqb n c.args.number) c.from.ensures
    ∙ is_listed-here c.args.number c.args.losses.now c.args.place c.requires.rises within c.requires.before (c.requires.from within)
