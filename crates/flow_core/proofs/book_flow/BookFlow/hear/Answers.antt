use Rattle.std.proofs.Common.{ap, ◌∙◌}
use Rattle.ccp_base.specs.declared.ack.Ack.{Ack}
use Rattle.flow_core.specs.BookFlows.{BookFlowState, book_heard}
use Rattle.flow_core.proofs.BookFlowLemmas.{put-A, whole-A, book-rated}
use Rattle.flow_core.proofs.book_flow.BookFlow.hear.Goals as goal

pub invariant_of-self : goal.invariant_of-self
invariant_of-self c =
    let inside = c.self.inside in
    whole-A inside.bare inside.journal c.args.ack.now c.hear-acked.new.self c.put_ack.new.self c.hear-acked.result c.new_notice-fault.result
    c.hear-acked.ensures.step c.hear-acked.ensures.acked c.new_notice-fault.ensures c.put_ack.ensures inside.reads_rates c.self.invariant

pub returns-clause-ok : goal.returns-clause-ok
returns-clause-ok c =
    let inside = c.self.inside in
    put-A inside.bare inside.journal c.args.ack.now c.hear-acked.new.self c.put_ack.new.self c.hear-acked.result c.new_notice-fault.result
    c.hear-acked.ensures.step c.hear-acked.ensures.acked c.new_notice-fault.ensures c.put_ack.ensures
    ∙ ap (book_heard c.args.ack.now) c.self.view_is

pub returns-clause-unread : goal.returns-clause-unread
returns-clause-unread c =
    let inside = c.self.inside in
    let old : BookFlowState = c.args.self.now in
    λ whole is.
    put-A inside.bare inside.journal c.args.ack.now c.hear-acked.new.self c.put_ack.new.self c.hear-acked.result c.new_notice-fault.result
    c.hear-acked.ensures.step c.hear-acked.ensures.acked c.new_notice-fault.ensures c.put_ack.ensures
    ∙ ap (book_heard c.args.ack.now) c.self.view_is
    ∙ ap (λ (ack : Ack). book_heard ack old) is
    ∙ book-rated old whole
