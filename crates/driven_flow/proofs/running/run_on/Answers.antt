use Rattle.std.proofs.Common.{Some, ap, sym, ◌∙◌}
use Rattle.driven_flow.specs.Session.{after_one}
use Rattle.driven_flow.proofs.SessionLemmas.{way-at-ticket, way-goes-on}
use Rattle.driven_flow.proofs.running.run_on.Goals as goal

pub returns-in-T-clause-ran : goal.returns-in-T-clause-ran
returns-in-T-clause-ran c =
    let given = c.args.answer.now in
    let now = c.loop-letter.flow in
    way-at-ticket given c.args.flow.now now c.make.new.flow (sym c.in-Some.ensures.next ∙ ap Some c.in-T.is)
    (c.in_ok-make.ensures.made ∙ ap (after_one given now) c.in-T.is) c.in_ok-make.ensures.fewer c.loop-letter.invariant.1

pub loop-letter-preserved : goal.loop-letter-preserved
loop-letter-preserved c =
    let given = c.args.answer.now in
    let now = c.loop-letter.flow in
    let other = c.in_default-letter.not-T in (
      c.in_ok-make.ensures.answers other,
      way-goes-on given c.args.flow.now now c.in-Some.letter c.make.new.flow other (sym c.in-Some.ensures.next) c.in_ok-make.ensures.made
          c.in_ok-make.ensures.fewer c.loop-letter.invariant.1,
      c.in_ok-make.ensures.programs ∙ c.loop-letter.invariant.2,
    )
