use Rattle.std.proofs.Common.{arith}
use Rattle.reply_frames.specs.FrameBytes.{event_bytes}
use Rattle.reply_frames.proofs.Placing.{wrote-more}
use Rattle.reply_frames.proofs.Taken.{all-more, all-taken}
use Rattle.ccp_messages.specs.Messages.{IsTypedEvent}
use Rattle.ccp_messages.specs.CodeParts.{event_part}
use Rattle.ccp_messages.proofs.encode_code.put_events.Goals as goal

pub loop-event-preserved : goal.loop-event-preserved
loop-event-preserved c = record {
  end = omega (arith, c.loop-event.invariant.end, c.put_event-end.ensures.wrote.end_is);
  wrote = wrote-more (λ event. event_bytes (event_part event)) c.args.events.now c.loop-event.event-index c.args.at (record { condition = 0; body = 0 }) c.args.out.now c.loop-event.out c.put_event-end.new.out c.loop-event.end c.put_event-end.result c.loop-event-test.true (omega arith) c.loop-event.invariant.wrote c.put_event-end.ensures.wrote;
  typed = all-more IsTypedEvent c.args.events.now c.loop-event.event-index (record { condition = 0; body = 0 }) c.loop-event-test.true c.loop-event.invariant.typed c.put_event-end.ensures.typed;
}

pub returns-clause-typed : goal.returns-clause-typed
returns-clause-typed c = all-taken IsTypedEvent c.args.events.now c.loop-event.event-index c.loop-event-test.false c.loop-event.invariant.typed
