use Rattle.std.proofs.Common.{refl}
use Rattle.reply_frames.specs.Frames.{fault_body_at}
use Rattle.reply_frames.proofs.bodies.fault.Goals as goal

pub returns-clause-read : goal.returns-clause-read
unfolding fault_body_at
returns-clause-read c = rw (c.in_ok-program.ensures, c.in_ok-epoch.ensures, c.in_ok-at.ensures, c.in_ok-kind.ensures.read, c.in_ok-index.ensures, c.in_ok-now.ensures, c.in_ok-cwnd.ensures, c.fault_numbered-kind.ensures) refl
