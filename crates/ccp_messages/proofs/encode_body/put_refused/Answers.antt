use Rattle.std.proofs.Common.{arith}
use Rattle.reply_frames.proofs.Placing.{wrote-then}
use Rattle.ccp_messages.proofs.encode_body.put_refused.Goals as goal

pub returns-clause-wrote : goal.returns-clause-wrote
returns-clause-wrote c = wrote-then (rw c.number.ensures.number at c.put8-end.ensures) c.put32.ensures (omega arith)
