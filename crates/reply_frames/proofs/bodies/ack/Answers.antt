use Rattle.std.proofs.Common.{refl}
use Rattle.reply_frames.specs.Frames.{ack_body_at}
use Rattle.reply_frames.proofs.bodies.ack.Goals as goal

pub returns : goal.returns
unfolding ack_body_at
returns c = rw (c.in_ok-rest.ensures.read, c.in_ok-was_timeout.ensures.read, c.ack_from_plain.ensures) refl
