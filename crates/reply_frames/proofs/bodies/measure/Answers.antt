use Rattle.std.proofs.Common.{refl}
use Rattle.reply_frames.specs.Frames.{measure_at}
use Rattle.reply_frames.proofs.bodies.measure.Goals as goal

pub returns-clause-read : goal.returns-clause-read
unfolding measure_at
returns-clause-read c = rw (c.in_ok-program.ensures, c.in_ok-epoch.ensures, c.in_ok-first.ensures, c.in_ok-end.ensures, c.in_ok-now.ensures, c.in_ok-cwnd.ensures, c.in_ok-rate.ensures, c.in_ok-rest.ensures.read) refl
