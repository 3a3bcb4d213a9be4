use Rattle.std.proofs.Common.{◌≡◌, Bool, true, false, rules, sym, ◌∙◌}
use Rattle.std.proofs.lemmas.Result.{IfOk-weaker}
use Rattle.shared_run.specs.RoundFlows.{Took, MakesNext}
use Rattle.shared_run.proofs.RoundFlowLemmas.{may-C, next-answer, next-taking}
use Rattle.shared_run.proofs.flow.turn.Goals as goal

pub settle-requires : goal.settle-requires
settle-requires g c =
    let old = c.args.flow.now in
    let yes : c.answers_next.result ≡ true = search rules in
    may-C g.F.GivenFlow.at c.args.at_end old.flow old.tally c.requires (λ core after. sym (c.answers_next.ensures core after) ∙ yes)

pub returns-then-answers_next : goal.returns-then-answers_next
returns-then-answers_next g c =
    let old = c.args.flow.now in
    let new = c.settle.new.self in
    let yes : c.answers_next.result ≡ true = search rules in
    next-answer g.F.GivenFlow.at c.args.at_end old.flow old.tally new.flow new.tally (λ core after. sym (c.answers_next.ensures core after) ∙ yes) c.settle.ensures

pub returns : goal.returns
returns g c =
    let at = g.F.GivenFlow.at in
    let old = c.args.flow.now in
    let new = c.take.new.flow in
    let no : c.answers_next.result ≡ false = search rules in
    IfOk-weaker c.take.result (λ (took : Bool). Took at took old.flow old.tally new.flow new.tally)
    (λ (made : Bool). MakesNext at c.args.at_end made old.flow old.tally new.flow new.tally)
    (λ took taken. next-taking at c.args.at_end old.flow old.tally new.flow new.tally took (λ core after. sym (c.answers_next.ensures core after) ∙ no) taken)
    c.take.ensures
