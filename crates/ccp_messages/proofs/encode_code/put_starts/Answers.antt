use Rattle.std.proofs.Common.{false, arith}
use Rattle.reply_frames.specs.FrameBytes.{start_bytes}
use Rattle.reply_frames.proofs.Placing.{wrote-more}
use Rattle.reply_frames.proofs.Taken.{all-more, all-taken}
use Rattle.ccp_messages.specs.Messages.{IsTypedStart}
use Rattle.ccp_messages.specs.CodeParts.{start_part}
use Rattle.ccp_messages.proofs.encode_code.put_starts.Goals as goal

pub loop-start-preserved : goal.loop-start-preserved
loop-start-preserved c = record {
  end = omega (arith, c.loop-start.invariant.end, c.put_start-end.ensures.wrote.end_is);
  wrote = wrote-more (λ start. start_bytes (start_part start)) c.args.starts.now c.loop-start.start-index c.args.at (record { volatile = false; value = 0 }) c.args.out.now c.loop-start.out c.put_start-end.new.out c.loop-start.end c.put_start-end.result c.loop-start-test.true (omega arith) c.loop-start.invariant.wrote c.put_start-end.ensures.wrote;
  typed = all-more IsTypedStart c.args.starts.now c.loop-start.start-index (record { volatile = false; value = 0 }) c.loop-start-test.true c.loop-start.invariant.typed c.put_start-end.ensures.typed;
}

pub returns-clause-typed : goal.returns-clause-typed
returns-clause-typed c = all-taken IsTypedStart c.args.starts.now c.loop-start.start-index c.loop-start-test.false c.loop-start.invariant.typed
