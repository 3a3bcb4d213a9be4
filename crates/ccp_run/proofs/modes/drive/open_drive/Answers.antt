use Rattle.std.proofs.Common.{Err, ap, sym, subst}
use Rattle.feed_core.specs.FeedEnds.{Stream, stream}
use Rattle.ccp_run.specs.DriveEnds.{IsOpened}
use Rattle.ccp_run.proofs.DriveFronts.{front-stops, opens-or-stops}
use Rattle.ccp_run.proofs.modes.drive.open_drive.Goals as goal

pub returns-in-Ok-clause-opened : goal.returns-in-Ok-clause-opened
returns-in-Ok-clause-opened g c =
    let source : Stream = stream (g.D.Duplex.remaining c.args.duplex.now) (g.D.Duplex.remaining c.read_front.new.duplex) (g.D.Duplex.read_faults c.args.duplex.now) (g.D.Duplex.read_faults c.read_front.new.duplex) in
    opens-or-stops source c.in-Ok.front.text c.read_front.new.rest c.in-Ok.front.eaten c.in-Ok.ensures.front c.driven_scene.result c.driven_scene.ensures.opened c.driven_scene.ensures.err

pub returns-in-Err-clause-opened : goal.returns-in-Err-clause-opened
returns-in-Err-clause-opened g c =
    let source : Stream = stream (g.D.Duplex.remaining c.args.duplex.now) (g.D.Duplex.remaining c.read_front.new.duplex) (g.D.Duplex.read_faults c.args.duplex.now) (g.D.Duplex.read_faults c.read_front.new.duplex) in
    subst (IsOpened source c.read_front.new.rest) (ap Err (sym c.front_stop.ensures)) (front-stops source c.in-Err.fault c.in-Err.ensures.front)
