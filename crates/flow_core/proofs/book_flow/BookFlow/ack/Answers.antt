use Rattle.std.proofs.Common.{ap, ◌∙◌}
use Rattle.flow_core.specs.BookFlows.{book_heard}
use Rattle.flow_core.proofs.BookFlowLemmas.{put-A, whole-A}
use Rattle.flow_core.proofs.book_flow.BookFlow.ack.Goals as goal

pub invariant_of-self : goal.invariant_of-self
invariant_of-self g c =
    let inside = c.self.inside in
    whole-A inside.bare inside.journal c.args.ack.now c.ack-acked.new.self c.put_ack.new.self c.ack-acked.result c.new_notice-fault.result
    c.ack-acked.ensures.step c.ack-acked.ensures.acked c.new_notice-fault.ensures c.put_ack.ensures inside.reads_rates c.self.invariant

pub returns-clause-ok : goal.returns-clause-ok
returns-clause-ok g c =
    let inside = c.self.inside in
    put-A inside.bare inside.journal c.args.ack.now c.ack-acked.new.self c.put_ack.new.self c.ack-acked.result c.new_notice-fault.result
    c.ack-acked.ensures.step c.ack-acked.ensures.acked c.new_notice-fault.ensures c.put_ack.ensures
    ∙ ap (book_heard c.args.ack.now) c.self.view_is
