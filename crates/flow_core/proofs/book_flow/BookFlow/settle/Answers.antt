use Rattle.std.proofs.Common.{ap, ◌∙◌}
use Rattle.flow_core.specs.Bares.{told_ticket}
use Rattle.flow_core.specs.BookFlows.{BookFlowState, line_after, book_answered}
use Rattle.flow_core.specs.Journals.{journal_answer, journal_line}
use Rattle.flow_core.proofs.BookFlowLemmas.{put-C, whole-C}
use Rattle.flow_core.proofs.book_flow.BookFlow.settle.Goals as goal

pub invariant_of-self : goal.invariant_of-self
invariant_of-self c =
    let inside = c.self.inside in
    let ticket = c.args.answer.now in
    let out = ap (λ (f : BookFlowState). told_ticket f.bare.case f.bare.summary) c.self.view_is ∙ c.requires in
    let begun = c.line_after-begun.ensures ∙ ap (λ n. line_after n c.settle.new.self.summary) c.epoch-epoch.ensures in
    let put = c.put_answer.ensures ∙ (λ i. journal_answer (journal_line ticket (c.taken_at-taken.ensures i) (c.acks-answered.ensures i)) (begun i) inside.journal) in
    whole-C inside.bare inside.journal ticket out c.settle.new.self c.put_answer.new.self c.settle.ensures put inside.reads_rates c.self.invariant

pub returns : goal.returns
returns c =
    let inside = c.self.inside in
    let ticket = c.args.answer.now in
    let out = ap (λ (f : BookFlowState). told_ticket f.bare.case f.bare.summary) c.self.view_is ∙ c.requires in
    let begun = c.line_after-begun.ensures ∙ ap (λ n. line_after n c.settle.new.self.summary) c.epoch-epoch.ensures in
    let put = c.put_answer.ensures ∙ (λ i. journal_answer (journal_line ticket (c.taken_at-taken.ensures i) (c.acks-answered.ensures i)) (begun i) inside.journal) in
    put-C inside.bare inside.journal ticket out c.settle.new.self c.put_answer.new.self c.settle.ensures put ∙ ap book_answered c.self.view_is
