use Rattle.std.proofs.Common.{◌∙◌, ap, arith}
use Rattle.ccp_base.specs.Acknowledgement.{primitives}
use Rattle.feed_core.proofs.AckFrames.{body-spelled}
use Rattle.feed_core.proofs.ack_frame.body.Goals as goal

pub returns-clause-body : goal.returns-clause-body
returns-clause-body c =
    body-spelled c.ack_of.result c.numbers-numbers.result c.args.frame.now c.numbers-numbers.ensures (ap primitives c.ack_of.ensures.ack ∙ c.ack_of.ensures.back (omega (arith, c.if-numbers-gt1.false)))
