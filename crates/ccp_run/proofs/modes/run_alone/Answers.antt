use Rattle.std.proofs.Common.{◌≡◌, false, rules}
use Rattle.run_ending.specs.Streams.{StreamChange, stream_change}
use Rattle.ccp_run.specs.Modes.{Alone, is_stream}
use Rattle.ccp_run.proofs.RunLemmas.{run_of}
use Rattle.ccp_run.proofs.modes.run_alone.Goals as goal

pub returns-in_default : goal.returns-in_default
returns-in_default g c =
    let source : StreamChange = stream_change g.S.Source.remaining g.S.Source.faults c.args.source.now c.make_alone-made.new.source in
    let sink : StreamChange = stream_change g.K.Sink.written g.K.Sink.faults c.args.sink.now c.end.new.sink in
    let errors : StreamChange = stream_change g.E.Sink.written g.E.Sink.faults c.args.errors.now c.end.new.errors in
    let whole : is_stream (Alone c.args.mode) ≡ false = search rules in
    run_of (Alone c.args.mode) whole source sink errors (g.K.Sink.is_finished c.end.new.sink) c.end.result c.make_alone-made.result
    c.make_alone-made.ensures c.end.ensures
