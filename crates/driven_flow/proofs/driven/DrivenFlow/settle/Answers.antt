use Rattle.std.proofs.Common.{◌≡◌, length, ap, ◌∙◌, subst}
use Rattle.driven_flow.specs.declared.journal.Journal.{Journal}
use Rattle.driven_flow.specs.Driven.{DrivenState, world_by}
use Rattle.driven_flow.specs.DrivenStates.{answers_in, driven_of, with_given}
use Rattle.driven_flow.proofs.StateLemmas.{world-given, left-given}
use Rattle.driven_flow.proofs.driven.DrivenFlow.settle.Goals as goal

pub returns-clause-world : goal.returns-clause-world
returns-clause-world c =
    let now = c.args.self.now in
    let given = c.args.answer.now in
    let d = driven_of c.self.inside.state in
    let j : Journal = c.reserve_answer.new.self in
    let items = c.in_ok-reserve_answer.ensures.items in
    let same : (record d { answers = j.answers.items; word = j.word.items }) ≡ d = λ i. record d { answers = items.answers i; word = items.word i } in
    ap world_by (c.settle.ensures.word ∙ ap (with_given given) (same ∙ c.self.view_is))
    ∙ world-given now given
    (subst (λ (e : DrivenState). length e.answers ≡ length (world_by e).answered) c.self.view_is c.self.invariant.all)
    (subst (λ (e : DrivenState). answers_in e.word ≡ length e.answers) c.self.view_is c.self.invariant.taken)

pub returns-clause-fewer : goal.returns-clause-fewer
returns-clause-fewer c =
    let now = c.args.self.now in
    let given = c.args.answer.now in
    let d = driven_of c.self.inside.state in
    let j : Journal = c.reserve_answer.new.self in
    let items = c.in_ok-reserve_answer.ensures.items in
    let same : (record d { answers = j.answers.items; word = j.word.items }) ≡ d = λ i. record d { answers = items.answers i; word = items.word i } in
    let grown = c.settle.ensures.word ∙ ap (with_given given) (same ∙ c.self.view_is) in
    left-given now (driven_of c.settle.new.self) given c.requires.may grown
    (ap world_by grown
    ∙ world-given now given
    (subst (λ (e : DrivenState). length e.answers ≡ length (world_by e).answered) c.self.view_is c.self.invariant.all)
    (subst (λ (e : DrivenState). answers_in e.word ≡ length e.answers) c.self.view_is c.self.invariant.taken))
