use Rattle.std.proofs.Common.{◌≡◌, ap, false, refl, rules, subst, sym}
use Rattle.run_ending.specs.Streams.{StreamChange, stream_change}
use Rattle.ccp_run.specs.Modes.{Task, Driven, is_stream, task_in, task_of}
use Rattle.ccp_run.specs.Run.{IsRun}
use Rattle.ccp_run.proofs.RunLemmas.{run_of, run_of_stream}
use Rattle.ccp_run.proofs.modes.run_asked.Goals as goal

pub returns-in-Driven : goal.returns-in-Driven
returns-in-Driven g c =
    let source : StreamChange = stream_change g.S.Source.remaining g.S.Source.faults c.args.source.now c.read_drive-made.new.source in
    let sink : StreamChange = stream_change g.K.Sink.written g.K.Sink.faults c.args.sink.now c.end.new.sink in
    let errors : StreamChange = stream_change g.E.Sink.written g.E.Sink.faults c.args.errors.now c.end.new.errors in
    let is_finished = g.K.Sink.is_finished c.end.new.sink in
    subst (λ (task : Task). IsRun task source sink errors is_finished c.end.result) (sym (ap (λ mode. task_in mode c.args.asked) c.in-Driven.is))
    (run_of_stream (Driven c.in-Driven.shown c.args.asked.wire) refl refl source sink errors is_finished c.end.result c.read_drive-made.result
    c.read_drive-made.ensures c.end.ensures)

pub returns-in_default : goal.returns-in_default
returns-in_default g c =
    let source : StreamChange = stream_change g.S.Source.remaining g.S.Source.faults c.args.source.now c.make_asked-made.new.source in
    let sink : StreamChange = stream_change g.K.Sink.written g.K.Sink.faults c.args.sink.now c.end-in_default.new.sink in
    let errors : StreamChange = stream_change g.E.Sink.written g.E.Sink.faults c.args.errors.now c.end-in_default.new.errors in
    let whole : is_stream (task_of c.args.asked) ≡ false = search rules in
    run_of (task_of c.args.asked) whole source sink errors (g.K.Sink.is_finished c.end-in_default.new.sink) c.end-in_default.result c.make_asked-made.result
    c.make_asked-made.ensures c.end-in_default.ensures
