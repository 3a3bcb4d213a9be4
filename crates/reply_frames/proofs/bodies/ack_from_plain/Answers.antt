use Rattle.std.proofs.Common.{ap, ◌∙◌}
use Rattle.ccp_base.specs.Acknowledgement.{ack_of}
use Rattle.reply_frames.specs.Bodies.{ack_body}
use Rattle.reply_frames.proofs.BodyLaws.{ack-again}
use Rattle.reply_frames.proofs.bodies.ack_from_plain.Goals as goal

pub returns : goal.returns
returns c =
    ap ack_body (c.ack_of.ensures.ack ∙ ap ack_of (c.as_slice.ensures.items ∙ c.push.ensures))
    ∙ ack-again c.args.numbers.now c.args.was_timeout c.requires.plain c.requires.flag
