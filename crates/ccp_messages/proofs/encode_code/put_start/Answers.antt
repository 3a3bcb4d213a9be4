use Rattle.std.proofs.Common.{arith}
use Rattle.reply_frames.proofs.Placing.{wrote-then}
use Rattle.ccp_messages.proofs.encode_code.put_start.Goals as goal

pub returns-clause-wrote : goal.returns-clause-wrote
returns-clause-wrote c = wrote-then (rw c.flag.ensures at c.put8-end.ensures) c.put64.ensures.wrote (omega arith)
