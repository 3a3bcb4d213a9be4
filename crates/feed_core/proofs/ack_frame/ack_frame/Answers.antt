use Rattle.std.proofs.Common.{rules}
use Rattle.feed_core.proofs.AckFrames.{frame-begins}
use Rattle.feed_core.proofs.ack_frame.ack_frame.Goals as goal

pub returns : goal.returns
returns c =
    frame-begins c.args.bytes.now c.in_ok-frame.frame.now c.in_ok-version.version c.in_ok-version.flow c.in_ok-ack.ack c.in_ok-frame.ensures.cases.same c.in_ok-version.ensures c.in_ok-ack.ensures.body (search rules) c.in_ok-ack.ensures.typed
