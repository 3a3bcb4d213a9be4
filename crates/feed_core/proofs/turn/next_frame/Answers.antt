use Rattle.std.proofs.Common.{sym, subst}
use Rattle.ccp_messages.specs.declared.message.Message.TheVariants as message
use Rattle.feed_core.specs.AckFrames.{ack_length}
use Rattle.feed_core.specs.FeedBytes.{answer_to}
use Rattle.feed_core.specs.FeedStops.{StopsAnswer}
use Rattle.feed_core.proofs.FeedEats.{some-used}
use Rattle.feed_core.proofs.turn.next_frame.Goals as goal

pub returns-in-Ok-clause-turn : goal.returns-in-Ok-clause-turn
returns-in-Ok-clause-turn g c =
    let frame = c.in-Some.frame in
    let used = some-used c.args.bytes.now (message.Ack frame.flow frame.ack) frame.version ack_length c.in-Some.ensures in
    record {
      message = message.Ack frame.flow frame.ack;
      version = frame.version;
      begins = c.in-Some.ensures;
      some = used.0;
      within = used.1;
      next = sym c.in-Ok.ensures.state;
      counted = c.in-Ok.ensures.one;
      written = c.in-Ok.ensures.written;
      handed = c.in-Ok.ensures.handed;
    }

pub returns-in-Err-clause-turn : goal.returns-in-Err-clause-turn
returns-in-Err-clause-turn g c =
    let frame = c.in-Some.frame in
    let used = some-used c.args.bytes.now (message.Ack frame.flow frame.ack) frame.version ack_length c.in-Some.ensures in
    let stops = subst (StopsAnswer (g.D.Duplex.write_faults c.args.duplex.now) (g.D.Duplex.write_faults c.answer_ack.new.duplex) (g.D.Duplex.written c.args.duplex.now) (g.D.Duplex.written c.answer_ack.new.duplex) (answer_to g.A.Answerer.answer_of c.args.answerer.now (message.Ack frame.flow frame.ack) frame.version))
    c.in-Err.ensures.failed c.in-Err.ensures.err in
    record {
      message = message.Ack frame.flow frame.ack;
      version = frame.version;
      used = ack_length;
      begins = c.in-Some.ensures;
      some = used.0;
      within = used.1;
      rose = stops.0;
      written = stops.1;
    }
