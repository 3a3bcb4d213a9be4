use Rattle.run_ending.specs.Streams.{StreamChange, stream_change}
use Rattle.ccp_run.proofs.DriveRunLemmas.{run_of_drive}
use Rattle.ccp_run.proofs.modes.drive.run_drive.Goals as goal

pub returns : goal.returns
returns g c =
    let source : StreamChange = stream_change g.S.Source.remaining g.S.Source.faults c.args.source.now c.drive_pair-ended.new.source in
    let sink : StreamChange = stream_change g.K.Sink.written g.K.Sink.faults c.args.sink.now c.drive_pair-ended.new.sink in
    let errors : StreamChange = stream_change g.E.Sink.written g.E.Sink.faults c.args.errors.now c.end_drive.new.errors in
    run_of_drive source sink errors (g.K.Sink.is_finished c.drive_pair-ended.new.sink) c.end_drive.result c.drive_pair-ended.result c.drive_pair-ended.ensures c.end_drive.ensures
