use Rattle.run_ending.specs.Streams.{StreamChange, stream_change}
use Rattle.ccp_run.specs.Modes.{Alone}
use Rattle.ccp_run.proofs.CompleteRuns.{complete}
use Rattle.ccp_run.proofs.calls.alone.Goals as goal

pub returns : goal.returns
returns g c =
    let source : StreamChange = stream_change g.S.Source.remaining g.S.Source.faults c.args.source.now c.run_alone.new.source in
    let sink : StreamChange = stream_change g.K.Sink.written g.K.Sink.faults c.args.sink.now c.run_alone.new.sink in
    let errors : StreamChange = stream_change g.E.Sink.written g.E.Sink.faults c.args.errors.now c.run_alone.new.errors in
    record {
      run = c.run_alone.ensures;
      complete = complete (Alone c.args.mode) source sink errors (g.K.Sink.is_finished c.run_alone.new.sink) c.run_alone.result c.run_alone.ensures;
    }
