use Rattle.std.proofs.Common.{◌≡◌, ◌-◌, suc, ap, ◌∙◌, arith, rules}
use Rattle.shared_link.specs.Kept.{answered_in, answered_all}
use Rattle.shared_link.proofs.flow_traffic.FlowTraffic.answer.Goals as goal

pub returns-then-not-answer_one-clause-answered : goal.returns-then-not-answer_one-clause-answered
returns-then-not-answer_one-clause-answered c =
    let left = c.loop-left.left in
    let one : suc (left - 1) ≡ left = omega (arith, c.loop-left-test.true) in
    c.answer_one.ensures.over (search rules) (left - 1)
    ∙ ap (λ n. answered_all c.args.link.now c.args.end n (answered_in c.loop-left.self)) one
    ∙ c.loop-left.invariant.1

pub loop-left-preserved : goal.loop-left-preserved
loop-left-preserved c =
    let left = c.loop-left.left in
    let one : suc (left - 1) ≡ left = omega (arith, c.loop-left-test.true) in (
      c.answer_one.ensures.kept,
      c.answer_one.ensures.on (search rules) (left - 1)
          ∙ ap (λ n. answered_all c.args.link.now c.args.end n (answered_in c.loop-left.self)) one
          ∙ c.loop-left.invariant.1,
      c.answer_one.ensures.sent ∙ c.loop-left.invariant.2,
      c.answer_one.ensures.room (search rules),
    )
