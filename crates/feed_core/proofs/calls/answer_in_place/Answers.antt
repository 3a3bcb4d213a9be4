use Rattle.std.proofs.Common.{◌≡◌, ◌+◌, ℕ, Bool, drop, length, ap, refl, sym, subst, ◌∙◌, arith}
use Rattle.ccp_base.specs.Outside.{IsAtEnd}
use Rattle.feed_core.specs.FeedLast.{IsLast}
use Rattle.feed_core.proofs.FeedSteps.{feeds-frame, feeds-part, feeds-still, feeds-bytes, feeds-piece}
use Rattle.feed_core.proofs.FeedEnding.{all-answered, ends-last, ends-unread, ends-long, ends-bad, ends-unwritten, ends-wanting}
use Rattle.feed_core.proofs.FeedBegins.{feeding-first}
use Rattle.feed_core.proofs.calls.answer_in_place.Goals as goal

pub loop-used-init : goal.loop-used-init
loop-used-init g c = record {
  follows = g.met.D.Duplex.follows_itself c.args.duplex.now;
  reads = omega arith;
  writes = omega arith;
  kept = λ finished. finished;
  none = c.requires.none;
  feeding = feeding-first _ (g.D.Duplex.remaining c.args.duplex.now) (g.D.Duplex.written c.args.duplex.now) (g.D.Duplex.is_finished c.args.duplex.now) c.requires.room c.requires.within;
}

pub loop-used-preserved-in-Answered : goal.loop-used-preserved-in-Answered
loop-used-preserved-in-Answered g c = record {
  follows = g.met.D.Duplex.follows_on c.args.duplex.now c.loop-used.duplex c.next_frame.new.duplex c.loop-used.invariant.follows c.next_frame.ensures.follows;
  reads = omega (arith, c.loop-used.invariant.reads, c.next_frame.ensures.read_faults);
  writes = omega (arith, c.loop-used.invariant.writes, c.next_frame.ensures.counted);
  kept = λ finished. c.in-Answered.ensures.kept (c.loop-used.invariant.kept finished);
  none = c.next_frame.ensures.none;
  feeding = feeds-frame (feeds-bytes c.loop-used.invariant.feeding c.as_slice.ensures.bytes) c.next_frame.ensures.remaining c.in-Answered.ensures.turn c.in-Answered.ensures.kept
      (c.drop_front.ensures ∙ ap (drop c.in-Answered.used) (sym c.as_slice.ensures.bytes));
}

pub read-requires-clause-allowed : goal.read-requires-clause-allowed
read-requires-clause-allowed g c =
    let part = feeds-part (feeds-bytes c.loop-used.invariant.feeding c.as_slice.ensures.bytes) c.next_frame.ensures.remaining c.in-Part.ensures.turn c.in-Part.ensures.kept in
    let all = all-answered _ g.A.Answerer.is_waiting g.A.Answerer.Takes _ _ _ _ _ _ _ _ part c.in-Part.ensures.turn.needed c.in-Part.ensures.turn.more (g.D.Duplex.is_finished c.next_frame.new.duplex) 0 0 0 0 part.handed in
    c.requires.allowed c.next_frame.new.duplex part.bytes
    (g.met.D.Duplex.follows_on c.args.duplex.now c.loop-used.duplex c.next_frame.new.duplex c.loop-used.invariant.follows c.next_frame.ensures.follows)
    all.taken all.written all.handed (λ finished. c.in-Part.ensures.kept (c.loop-used.invariant.kept finished))

pub loop-used-preserved : goal.loop-used-preserved
loop-used-preserved g c =
    let bytes = feeds-bytes c.loop-used.invariant.feeding c.as_slice.ensures.bytes in
    let part = feeds-bytes (feeds-part bytes c.next_frame.ensures.remaining c.in-Part.ensures.turn c.in-Part.ensures.kept) (sym c.as_slice.ensures.bytes) in
    record {
      follows = g.met.D.Duplex.follows_on c.args.duplex.now c.next_frame.new.duplex c.read.new.duplex (g.met.D.Duplex.follows_on c.args.duplex.now c.loop-used.duplex c.next_frame.new.duplex c.loop-used.invariant.follows c.next_frame.ensures.follows) c.read.ensures.follows;
      reads = omega (arith, c.loop-used.invariant.reads, c.next_frame.ensures.read_faults, c.read.ensures.counted);
      writes = omega (arith, c.loop-used.invariant.writes, c.next_frame.ensures.counted, c.read.ensures.write_faults);
      kept = λ finished. c.read.ensures.finished (c.in-Part.ensures.kept (c.loop-used.invariant.kept finished));
      none = c.next_frame.ensures.none;
      feeding = feeds-piece part c.in-Bytes.ensures.came (omega (arith, c.len-left.ensures, part.within)) c.read.ensures.written c.read.ensures.finished;
    }

pub returns-in-End-clause-fed : goal.returns-in-End-clause-fed
returns-in-End-clause-fed g c =
    let bytes = feeds-bytes c.loop-used.invariant.feeding c.as_slice.ensures.bytes in
    let part = feeds-part bytes c.next_frame.ensures.remaining c.in-Part.ensures.turn c.in-Part.ensures.kept in
    let still = feeds-still part (c.at_end.ensures.remaining ∙ c.in-End.ensures.came.0) (c.at_end.ensures.kept ∙ c.read.ensures.written) c.read.ensures.finished in
    let end : IsAtEnd (g.D.Duplex.remaining c.at_end.new.duplex) = subst IsAtEnd (sym (c.at_end.ensures.remaining ∙ c.in-End.ensures.came.0)) c.in-End.ensures.came.1 in
    let left : c.len-left.result ≡ length c.as_slice.result.now = c.len-left.ensures ∙ ap length (sym c.as_slice.ensures.bytes) in
    let last = subst (λ (left : ℕ). IsLast (g.D.Duplex.write_faults c.read.new.duplex) (g.D.Duplex.write_faults c.at_end.new.duplex) (g.D.Duplex.is_finished c.read.new.duplex) (g.D.Duplex.is_finished c.at_end.new.duplex) c.waits.result c.loop-used.place left c.at_end.result) left c.at_end.ensures.last in
    let last' = subst (λ (waits : Bool). IsLast (g.D.Duplex.write_faults c.read.new.duplex) (g.D.Duplex.write_faults c.at_end.new.duplex) (g.D.Duplex.is_finished c.read.new.duplex) (g.D.Duplex.is_finished c.at_end.new.duplex) waits c.loop-used.place (length c.as_slice.result.now) c.at_end.result) c.waits.ensures last in
    ends-last _ g.A.Answerer.is_waiting g.A.Answerer.Takes _ _ _ _ _ _ _ _ still c.in-Part.ensures.turn.needed c.in-Part.ensures.turn.more (g.D.Duplex.is_finished c.at_end.new.duplex)
    (g.D.Duplex.read_faults c.args.duplex.now) (g.D.Duplex.read_faults c.at_end.new.duplex) (g.D.Duplex.write_faults c.args.duplex.now) (g.D.Duplex.write_faults c.read.new.duplex) (g.D.Duplex.write_faults c.at_end.new.duplex)
    end (omega (arith, c.loop-used.invariant.writes, c.next_frame.ensures.counted, c.read.ensures.write_faults)) c.at_end.ensures.counted c.at_end.result last'

pub returns-in-Further-clause-fed : goal.returns-in-Further-clause-fed
returns-in-Further-clause-fed g c =
    let bytes = feeds-bytes c.loop-used.invariant.feeding c.as_slice.ensures.bytes in
    let part = feeds-part bytes c.next_frame.ensures.remaining c.in-Part.ensures.turn c.in-Part.ensures.kept in
    let still = feeds-still part refl c.read.ensures.written c.read.ensures.finished in
    ends-long _ g.A.Answerer.is_waiting g.A.Answerer.Takes _ _ _ _ _ _ _ _ still c.in-Part.ensures.turn.needed c.in-Part.ensures.turn.more c.next_frame.new.answerer (g.D.Duplex.remaining c.read.new.duplex) c.in-Further.ensures.came.piece
    (g.D.Duplex.read_faults c.args.duplex.now) (g.D.Duplex.read_faults c.read.new.duplex) (g.D.Duplex.write_faults c.args.duplex.now) (g.D.Duplex.write_faults c.read.new.duplex)
    c.in-Further.ensures.came.taken c.in-Further.ensures.came.one (omega (arith, c.in-Further.ensures.came.none, c.len-left.ensures, ap length c.as_slice.ensures.bytes, part.within))

pub returns-in-Failed-clause-fed : goal.returns-in-Failed-clause-fed
returns-in-Failed-clause-fed g c =
    let bytes = feeds-bytes c.loop-used.invariant.feeding c.as_slice.ensures.bytes in
    let part = feeds-part bytes c.next_frame.ensures.remaining c.in-Part.ensures.turn c.in-Part.ensures.kept in
    let still = feeds-still part c.in-Failed.ensures.came.1 c.read.ensures.written c.read.ensures.finished in
    ends-unread _ g.A.Answerer.is_waiting g.A.Answerer.Takes _ _ _ _ _ _ _ _ still c.in-Part.ensures.turn.needed c.in-Part.ensures.turn.more c.next_frame.new.answerer
    (g.D.Duplex.read_faults c.args.duplex.now) (g.D.Duplex.read_faults c.next_frame.new.duplex) (g.D.Duplex.read_faults c.read.new.duplex) (g.D.Duplex.write_faults c.args.duplex.now) (g.D.Duplex.write_faults c.read.new.duplex)
    (omega (arith, c.loop-used.invariant.reads, c.next_frame.ensures.read_faults)) c.read.ensures.counted c.in-Failed.ensures.came.0

pub returns-in-Bad-clause-fed : goal.returns-in-Bad-clause-fed
returns-in-Bad-clause-fed g c =
    let bytes = feeds-bytes c.loop-used.invariant.feeding c.as_slice.ensures.bytes in
    let still = feeds-still bytes c.next_frame.ensures.remaining c.in-Bad.ensures.turn.2 c.in-Bad.ensures.kept in
    ends-bad _ g.A.Answerer.is_waiting g.A.Answerer.Takes _ _ _ _ _ _ _ _ still c.next_frame.new.answerer c.in-Bad.field c.in-Bad.offset (c.loop-used.place + c.in-Bad.offset)
    (g.D.Duplex.read_faults c.args.duplex.now) (g.D.Duplex.read_faults c.next_frame.new.duplex) (g.D.Duplex.write_faults c.args.duplex.now) (g.D.Duplex.write_faults c.next_frame.new.duplex)
    c.in-Bad.ensures.turn.0 c.in-Bad.ensures.turn.1 refl

pub returns-in-WriteFailed-clause-fed : goal.returns-in-WriteFailed-clause-fed
returns-in-WriteFailed-clause-fed g c =
    let bytes = feeds-bytes c.loop-used.invariant.feeding c.as_slice.ensures.bytes in
    let still = feeds-still bytes c.next_frame.ensures.remaining refl (λ (finished : g.D.Duplex.is_finished c.loop-used.duplex). finished) in
    ends-unwritten _ g.A.Answerer.is_waiting g.A.Answerer.Takes _ _ _ _ _ _ _ _ still c.next_frame.new.answerer (g.D.Duplex.written c.next_frame.new.duplex) (g.D.Duplex.is_finished c.next_frame.new.duplex)
    (g.D.Duplex.read_faults c.args.duplex.now) (g.D.Duplex.read_faults c.next_frame.new.duplex) (g.D.Duplex.write_faults c.args.duplex.now) (g.D.Duplex.write_faults c.loop-used.duplex) (g.D.Duplex.write_faults c.next_frame.new.duplex)
    c.loop-used.invariant.writes c.next_frame.ensures.counted c.in-WriteFailed.ensures.turn

pub returns-in-NoMemory-clause-fed : goal.returns-in-NoMemory-clause-fed
returns-in-NoMemory-clause-fed g c =
    let bytes = feeds-bytes c.loop-used.invariant.feeding c.as_slice.ensures.bytes in
    let still = feeds-still bytes c.next_frame.ensures.remaining c.in-NoMemory.ensures.turn.nothing c.in-NoMemory.ensures.kept in
    ends-wanting _ g.A.Answerer.is_waiting g.A.Answerer.Takes _ _ _ _ _ _ _ _ still c.next_frame.new.answerer
    (g.D.Duplex.read_faults c.args.duplex.now) (g.D.Duplex.read_faults c.next_frame.new.duplex) (g.D.Duplex.write_faults c.args.duplex.now) (g.D.Duplex.write_faults c.next_frame.new.duplex)
    (omega (arith, c.as_slice.ensures.few, ap length c.as_slice.ensures.bytes)) c.in-NoMemory.ensures.turn.cause
