use Rattle.std.proofs.Common.{◌≡◌, take, subst, arith}
use Rattle.ccp_base.specs.Acknowledgement.{bool_number, flag_number}
use Rattle.reply_frames.specs.FrameBytes.{numbers_bytes}
use Rattle.reply_frames.specs.Writing.{Wrote}
use Rattle.reply_frames.proofs.Placing.{wrote-then}
use Rattle.ccp_messages.proofs.encode_body.put_ack.Goals as goal

pub returns-clause-wrote : goal.returns-clause-wrote
returns-clause-wrote c =
    let flag : c.bool_number.result ≡ bool_number c.args.ack.was_timeout = c.bool_number.ensures in
    let numbers = subst (λ xs. Wrote c.args.at (numbers_bytes (take flag_number xs)) c.args.out.now c.put_numbers-end.new.out c.put_numbers-end.result) c.primitives-numbers.ensures.numbers c.put_numbers-end.ensures.wrote in
    wrote-then numbers (rw flag at c.put64.ensures.wrote) (omega arith)
