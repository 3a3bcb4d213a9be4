use Rattle.std.proofs.Common.{arith}
use Rattle.reply_frames.proofs.Placing.{wrote-then}
use Rattle.ccp_messages.proofs.encode_code.put_instr.Goals as goal

pub returns-clause-wrote : goal.returns-clause-wrote
returns-clause-wrote c =
    wrote-then (wrote-then (wrote-then (rw c.number.ensures.number at c.put8-end.ensures) c.put_register-end.ensures.wrote (omega arith)) c.put_register-end-2.ensures.wrote (omega arith)) c.put_register.ensures.wrote (omega arith)
