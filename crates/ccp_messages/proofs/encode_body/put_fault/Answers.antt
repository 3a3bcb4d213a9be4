use Rattle.std.proofs.Common.{arith}
use Rattle.reply_frames.proofs.Placing.{wrote-then}
use Rattle.ccp_messages.proofs.encode_body.put_fault.Goals as goal

pub returns-clause-wrote : goal.returns-clause-wrote
returns-clause-wrote c = wrote-then (wrote-then (wrote-then (wrote-then (wrote-then c.put32-end.ensures c.put32-end-2.ensures (omega arith)) c.put_count-end.ensures.wrote (omega arith)) (wrote-then (rw c.fault_number.ensures at c.put8-end.ensures) c.put16-end.ensures (omega arith)) (omega arith)) c.put64-end.ensures.wrote (omega arith)) c.put64.ensures.wrote (omega arith)
