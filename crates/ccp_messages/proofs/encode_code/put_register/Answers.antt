use Rattle.std.proofs.Common.{arith, subst}
use Rattle.reply_frames.specs.declared.outline.Register.{Register}
use Rattle.reply_frames.specs.FrameBytes.{register_bytes}
use Rattle.reply_frames.specs.Writing.{Wrote}
use Rattle.reply_frames.proofs.Placing.{wrote-then}
use Rattle.ccp_messages.proofs.encode_code.put_register.Goals as goal

pub returns-clause-wrote : goal.returns-clause-wrote
returns-clause-wrote c =
    subst (λ (r : Register). Wrote c.args.at (register_bytes r) c.args.out.now c.put64.new.out c.put64.result) c.register_numbers-class.ensures
    (wrote-then c.put8-end.ensures c.put64.ensures.wrote (omega arith))
