use Rattle.std.proofs.Common.{◌≡◌, max, ap, sym, ◌∙◌, subst}
use Rattle.flow_core.specs.declared.letter.Letter.TheVariants.{T}
use Rattle.flow_core.specs.Runnings.{out_by, running_by, can_tell}
use Rattle.flow_core.specs.Summaries.{summary_with}
use Rattle.driven_flow.specs.declared.journal.Journal.{Journal}
use Rattle.driven_flow.specs.Driven.{DrivenState, unasked}
use Rattle.driven_flow.specs.DrivenStates.{driven_of, with_letter, IsDriven}
use Rattle.driven_flow.proofs.StepLemmas.{none-out, can-be, is-issued, told-issued}
use Rattle.driven_flow.proofs.StateLemmas.{may-make, driven-T, told-same}
use Rattle.driven_flow.proofs.state.State.take.Goals as goal

pub issue-requires-clause-none_out : goal.issue-requires-clause-none_out
issue-requires-clause-none_out c =
    let s = c.args.self.now in
    none-out (out_by s.running) (can_tell (running_by s.running)) (may-make (driven_of s) s.running s.link s.journal s.sums s.peak c.requires.is T c.requires.may)

pub issue-requires-clause-some : goal.issue-requires-clause-some
issue-requires-clause-some c =
    let s = c.args.self.now in
    can-be (out_by s.running) (can_tell (running_by s.running)) (may-make (driven_of s) s.running s.link s.journal s.sums s.peak c.requires.is T c.requires.may)

pub returns-clause-is : goal.returns-clause-is
returns-clause-is c =
    let s = c.args.self.now in
    let d = driven_of s in
    let j : Journal = c.put_take.new.self in
    let same : (record d { answers = j.answers.items; word = j.word.items }) ≡ with_letter T d =
    λ i. record d { answers = (c.put_take.ensures i).answers.items; word = (c.put_take.ensures i).word.items } in
    subst (λ (d' : DrivenState). IsDriven d' c.issue.new.self s.link c.put_take.new.self s.sums c.max-self.result) (sym same)
    (driven-T d s.running s.link s.journal s.sums s.peak c.requires.is c.issue.new.self c.put_take.new.self c.max-self.result
    (is-issued s.programs.now s.case s.running c.requires.is.whole c.issue.new.self c.issue.ensures.running c.issue.ensures.fits c.issue.ensures.size c.issue.ensures.step)
    (ap (summary_with unasked) c.issue.ensures.step) c.put_take.ensures (c.max-self.ensures ∙ ap (max s.peak) c.cwnd.ensures))

pub returns-clause-told : goal.returns-clause-told
returns-clause-told c =
    let s = c.args.self.now in
    let d = driven_of s in
    let j : Journal = c.put_take.new.self in
    let same : (record d { answers = j.answers.items; word = j.word.items }) ≡ with_letter T d =
    λ i. record d { answers = (c.put_take.ensures i).answers.items; word = (c.put_take.ensures i).word.items } in
    let is =
    subst (λ (d' : DrivenState). IsDriven d' c.issue.new.self s.link c.put_take.new.self s.sums c.max-self.result) (sym same)
    (driven-T d s.running s.link s.journal s.sums s.peak c.requires.is c.issue.new.self c.put_take.new.self c.max-self.result
    (is-issued s.programs.now s.case s.running c.requires.is.whole c.issue.new.self c.issue.ensures.running c.issue.ensures.fits c.issue.ensures.size c.issue.ensures.step)
    (ap (summary_with unasked) c.issue.ensures.step) c.put_take.ensures (c.max-self.ensures ∙ ap (max s.peak) c.cwnd.ensures)) in
    sym (told-same (record d { answers = j.answers.items; word = j.word.items }) c.issue.new.self s.link c.put_take.new.self s.sums c.max-self.result is)
    ∙ told-issued c.issue.new.self c.issue.ensures.out
