use Rattle.std.proofs.Common.{arith}
use Rattle.reply_frames.proofs.Placing.{length-values_bytes}
use Rattle.ccp_messages.proofs.encode_body.put_values.Goals as goal

pub returns-clause-wrote : goal.returns-clause-wrote
returns-clause-wrote c = record {
  is = c.put_values.ensures.placed;
  end_is = omega (arith, c.len.ensures.len, length-values_bytes c.args.values.now);
}
