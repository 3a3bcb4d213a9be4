use Rattle.std.proofs.Common.{arith}
use Rattle.std.specs.Int.{w64, to_le_bytes}
use Rattle.reply_frames.specs.FrameBytes.{IsNumber}
use Rattle.reply_frames.proofs.Placing.{wrote-more}
use Rattle.reply_frames.proofs.Taken.{all-more, all-taken}
use Rattle.ccp_messages.proofs.writing.put_numbers.Goals as goal

pub loop-number-preserved : goal.loop-number-preserved
loop-number-preserved c = record {
  end = omega (arith, c.loop-number.invariant.end, c.put64-end.ensures.wrote.end_is);
  wrote = wrote-more (to_le_bytes w64) c.args.numbers.now c.loop-number.number-index c.args.at 0 c.args.out.now c.loop-number.out c.put64-end.new.out c.loop-number.end c.put64-end.result c.loop-number-test.true (omega arith) c.loop-number.invariant.wrote c.put64-end.ensures.wrote;
  typed = all-more IsNumber c.args.numbers.now c.loop-number.number-index 0 c.loop-number-test.true c.loop-number.invariant.typed c.put64-end.ensures.typed;
}

pub returns-clause-typed : goal.returns-clause-typed
returns-clause-typed c = all-taken IsNumber c.args.numbers.now c.loop-number.number-index c.loop-number-test.false c.loop-number.invariant.typed
