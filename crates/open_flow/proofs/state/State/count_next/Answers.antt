use Rattle.open_flow.proofs.OpenLemmas.{open-counted, present-none}
use Rattle.open_flow.proofs.state.State.count_next.Goals as goal

pub returns-clause-open_state : goal.returns-clause-open_state
returns-clause-open_state c =
    open-counted c.args.self.now c.requires.open_state c.requires.left c.cwnd-window.result c.cwnd-window.ensures
    c.next-ack.new.self c.next-ack.result c.push.new.self c.next-ack.ensures.ack c.next-ack.ensures.stands c.next-ack.ensures.case c.next-ack.ensures.calls
    c.push.ensures.items c.push.ensures.room c.requires.none

pub returns-clause-answered : goal.returns-clause-answered
returns-clause-answered c =
    present-none c.args.self.now c.requires.open_state c.requires.left c.cwnd-window.result c.cwnd-window.ensures
    c.next-ack.new.self c.next-ack.result c.push.new.self c.next-ack.ensures.ack c.next-ack.ensures.stands c.next-ack.ensures.case c.next-ack.ensures.calls
    c.push.ensures.items c.push.ensures.room c.requires.none
