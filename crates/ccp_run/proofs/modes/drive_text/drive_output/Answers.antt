use Rattle.std.proofs.Common.{None}
use Rattle.feed_core.specs.FeedEnds.{Stream, stream}
use Rattle.ccp_run.proofs.DriveTextRuns.{text-made}
use Rattle.ccp_run.proofs.modes.drive_text.drive_output.Goals as goal

pub returns-clause-attempts : goal.returns-clause-attempts
returns-clause-attempts g c =
    let sink : Stream = stream None None 0 0 in
    text-made c.args.shown c.args.wire (g.S.Source.remaining c.args.unheard.now.source.now) (g.S.Source.remaining c.open_drive.new.duplex.source.now)
    (g.S.Source.faults c.args.unheard.now.source.now) (g.S.Source.faults c.open_drive.new.duplex.source.now) c.open_drive.new.rest c.in_ok-opened.opened c.in_ok-opened.ensures.opened
    (g.S.Source.remaining c.made_of.new.unheard.source.now) (g.S.Source.faults c.made_of.new.unheard.source.now) sink c.open_drive.ensures.reads c.made_of.ensures.reads c.made_of.result c.made_of.ensures.made
