use Rattle.std.proofs.Common.{ℕ, refl, sym, subst}
use Rattle.ccp_base.specs.Outside.{Known}
use Rattle.feed_core.specs.FeedEnds.{Stream, stream}
use Rattle.ccp_run.specs.declared.drive_end.DriveEnd.{DriveEnd}
use Rattle.ccp_run.specs.DriveEnds.{IsDriveEnd, end_in}
use Rattle.ccp_run.proofs.DriveRuns.{allowed-frames, drive-ends, drive-stops}
use Rattle.ccp_run.proofs.modes.drive.drive_frames.Goals as goal

pub drive_flows-requires-clause-allowed : goal.drive_flows-requires-clause-allowed
drive_flows-requires-clause-allowed g c =
    allowed-frames (g.D.Duplex.remaining c.args.duplex.now) (g.D.Duplex.remaining c.open_drive.new.duplex) (g.D.Duplex.read_faults c.args.duplex.now) (g.D.Duplex.read_faults c.open_drive.new.duplex)
    c.open_drive.new.rest c.in-Ok.opened c.in-Ok.ensures.opened g.D.Duplex.remaining g.D.Duplex.written g.D.Duplex.is_finished g.D.Duplex.Follows g.D.Duplex.MayRead c.args.duplex.now c.open_drive.new.duplex
    g.met.D.Duplex.follows_on refl refl c.requires.allowed c.open_drive.ensures.follows c.open_drive.ensures.written c.open_drive.ensures.finished

pub returns-in-Ok-clause-end : goal.returns-in-Ok-clause-end
returns-in-Ok-clause-end g c =
    let source : Stream = stream (g.D.Duplex.remaining c.args.duplex.now) (g.D.Duplex.remaining c.drive_flows.new.duplex) (g.D.Duplex.read_faults c.args.duplex.now) (g.D.Duplex.read_faults c.drive_flows.new.duplex) in
    let is_finished = g.D.Duplex.is_finished c.drive_flows.new.duplex in
    let new : Known = g.D.Duplex.written c.drive_flows.new.duplex in
    let now : ℕ = g.D.Duplex.write_faults c.drive_flows.new.duplex in
    let ends = drive-ends (g.D.Duplex.remaining c.args.duplex.now) (g.D.Duplex.remaining c.open_drive.new.duplex) (g.D.Duplex.read_faults c.args.duplex.now) (g.D.Duplex.read_faults c.open_drive.new.duplex)
    c.open_drive.new.rest c.in-Ok.opened c.in-Ok.ensures.opened (g.D.Duplex.remaining c.drive_flows.new.duplex) (g.D.Duplex.read_faults c.drive_flows.new.duplex)
    (stream (g.D.Duplex.written c.open_drive.new.duplex) new (g.D.Duplex.write_faults c.open_drive.new.duplex) now)
    is_finished c.drive_flows.ensures.end.0 c.open_drive.ensures.reads c.drive_flows.ensures.reads c.drive_flows.result c.drive_flows.ensures.end.1 in
    subst (λ (end : DriveEnd). IsDriveEnd source (stream (g.D.Duplex.written c.args.duplex.now) new (g.D.Duplex.write_faults c.args.duplex.now) now) is_finished end) (sym c.from.ensures)
    (subst (λ (k : Known). IsDriveEnd source (stream k new (g.D.Duplex.write_faults c.args.duplex.now) now) is_finished (end_in c.drive_flows.result)) c.open_drive.ensures.written
    (subst (λ (n : ℕ). IsDriveEnd source (stream (g.D.Duplex.written c.open_drive.new.duplex) new n now) is_finished (end_in c.drive_flows.result)) c.open_drive.ensures.write_faults ends))

pub returns-in-Err-clause-end : goal.returns-in-Err-clause-end
returns-in-Err-clause-end g c =
    let source : Stream = stream (g.D.Duplex.remaining c.args.duplex.now) (g.D.Duplex.remaining c.open_drive.new.duplex) (g.D.Duplex.read_faults c.args.duplex.now) (g.D.Duplex.read_faults c.open_drive.new.duplex) in
    let sink : Stream = stream (g.D.Duplex.written c.args.duplex.now) (g.D.Duplex.written c.open_drive.new.duplex) (g.D.Duplex.write_faults c.args.duplex.now) (g.D.Duplex.write_faults c.open_drive.new.duplex) in
    let is_finished = g.D.Duplex.is_finished c.open_drive.new.duplex in
    subst (IsDriveEnd source sink is_finished) (sym c.from-in-Err.ensures) (drive-stops source sink is_finished c.open_drive.ensures.written c.in-Err.stop c.in-Err.ensures.opened)
