use Rattle.std.proofs.Common.{◌≡◌, List, ℕ, Result, Ok, Err, OnOk, IfErr, subst}
use Rattle.ccp_base.specs.Outside.{Appends}
use Rattle.ccp_messages.specs.declared.message.Message.TheVariants as message
use Rattle.feed_core.specs.FeedBytes.{answer_bytes, answer_to}
use Rattle.feed_core.specs.FeedEnds.{AreHandedOn}
use Rattle.feed_core.specs.FeedStops.{StopsAnswer}
use Rattle.feed_core.proofs.AnswerParts.{answer-part, state-part}
use Rattle.feed_core.proofs.answering.answer_ack.Goals as goal

-- what holds at all holds after a success
always : {A E P : Type 0} (result : Result A E) → P → OnOk result P
always (Ok done) holds = holds
always (Err why) holds = tt

pub returns : goal.returns
returns g c =
    let frame = c.args.frame.now in
    let same : answer_bytes c.acknowledge.new.answer ≡ answer_to g.A.Answerer.answer_of c.args.answerer.now (message.Ack frame.flow frame.ack) frame.version =
    answer-part c.acknowledge.ensures.answered in
    record {
      none = c.clear.ensures;
      state = always c.write_answer-done.result (state-part c.acknowledge.ensures.answered);
      one = always c.write_answer-done.result c.acknowledge.ensures.room;
      written = subst (λ (bytes : List ℕ). OnOk c.write_answer-done.result (Appends (g.D.Duplex.written c.args.duplex.now) (g.D.Duplex.written c.write_answer-done.new.duplex) bytes)) same c.write_answer-done.ensures.written;
      handed = subst (λ (bytes : List ℕ). OnOk c.write_answer-done.result (AreHandedOn bytes (g.D.Duplex.is_finished c.write_answer-done.new.duplex))) same c.write_answer-done.ensures.handed;
      kept = c.write_answer-done.ensures.kept;
      follows = c.write_answer-done.ensures.follows;
      remaining = c.write_answer-done.ensures.remaining;
      read_faults = c.write_answer-done.ensures.read_faults;
      counted = c.write_answer-done.ensures.counted;
      err = subst (λ (bytes : List ℕ). IfErr c.write_answer-done.result (StopsAnswer (g.D.Duplex.write_faults c.args.duplex.now) (g.D.Duplex.write_faults c.write_answer-done.new.duplex) (g.D.Duplex.written c.args.duplex.now) (g.D.Duplex.written c.write_answer-done.new.duplex) bytes)) same c.write_answer-done.ensures.err;
      failed = c.write_answer-done.ensures.failed;
    }
