use Rattle.std.proofs.Common.{arith}
use Rattle.reply_frames.proofs.Placing.{wrote-then}
use Rattle.ccp_messages.proofs.encode_code.put_event.Goals as goal

pub returns-clause-wrote : goal.returns-clause-wrote
returns-clause-wrote c = wrote-then c.put16-end.ensures c.put16.ensures (omega arith)
