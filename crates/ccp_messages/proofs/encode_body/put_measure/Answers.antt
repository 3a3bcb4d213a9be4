use Rattle.std.proofs.Common.{arith}
use Rattle.reply_frames.proofs.Placing.{wrote-then}
use Rattle.std.proofs.Common.{subst}
use Rattle.reply_frames.specs.FrameBytes.{numbers_bytes}
use Rattle.reply_frames.specs.Writing.{Wrote}
use Rattle.ccp_messages.proofs.encode_body.put_measure.Goals as goal

pub returns-clause-wrote : goal.returns-clause-wrote
returns-clause-wrote c =
    let fields = subst (λ xs. Wrote c.put64-end-3.result (numbers_bytes xs) c.put64-end-3.new.out c.put_numbers.new.out c.put_numbers.result) c.as_slice.ensures.items c.put_numbers.ensures.wrote in
    wrote-then (wrote-then (wrote-then (wrote-then (wrote-then (wrote-then (wrote-then c.put32-end.ensures c.put32-end-2.ensures (omega arith)) c.put_count-end.ensures.wrote (omega arith)) c.put_count-end-2.ensures.wrote (omega arith)) c.put64-end.ensures.wrote (omega arith)) c.put64-end-2.ensures.wrote (omega arith)) c.put64-end-3.ensures.wrote (omega arith)) fields (omega arith)
