use Rattle.std.proofs.Common.{◌≡◌, max, ap, sym, ◌∙◌, subst}
use Rattle.driven_flow.specs.declared.journal.Journal.{Journal}
use Rattle.driven_flow.specs.Driven.{DrivenState}
use Rattle.driven_flow.specs.DrivenStates.{driven_of, with_given, IsDriven}
use Rattle.driven_flow.proofs.StateLemmas.{driven-C}
use Rattle.driven_flow.proofs.state.State.settle.Goals as goal

pub returns-clause-is : goal.returns-clause-is
returns-clause-is c =
    let s = c.args.self.now in
    let d = driven_of s in
    let given = c.args.answer.now in
    let j : Journal = c.put_answer.new.self in
    let same : (record d { answers = j.answers.items; word = j.word.items }) ≡ with_given given d =
    λ i. record d { answers = (c.put_answer.ensures i).answers.items; word = (c.put_answer.ensures i).word.items } in
    subst (λ (d' : DrivenState). IsDriven d' c.settle.new.running s.link c.put_answer.new.self s.sums c.max-self.result) (sym same)
    (driven-C d s.running s.link s.journal s.sums s.peak c.requires.is given c.requires.may c.settle.new.running c.put_answer.new.self c.max-self.result
    c.line_out-ticket.result c.line_begun-epoch.result c.settle.ensures.driven c.settle.ensures.step c.line_out-ticket.ensures c.line_begun-epoch.ensures
    c.put_answer.ensures (c.max-self.ensures ∙ ap (max s.peak) c.cwnd.ensures))
