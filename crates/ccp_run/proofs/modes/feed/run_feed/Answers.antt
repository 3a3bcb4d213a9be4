use Rattle.run_ending.specs.Streams.{StreamChange, stream_change}
use Rattle.ccp_run.proofs.FeedRunLemmas.{run_of_feed}
use Rattle.ccp_run.proofs.modes.feed.run_feed.Goals as goal

pub returns : goal.returns
returns g c =
    let source : StreamChange = stream_change g.S.Source.remaining g.S.Source.faults c.args.source.now c.feed-ended.new.source in
    let sink : StreamChange = stream_change g.K.Sink.written g.K.Sink.faults c.args.sink.now c.feed-ended.new.sink in
    let errors : StreamChange = stream_change g.E.Sink.written g.E.Sink.faults c.args.errors.now c.end_feed.new.errors in
    run_of_feed source sink errors (g.K.Sink.is_finished c.feed-ended.new.sink) c.end_feed.result c.feed-ended.result c.feed-ended.ensures.fed c.end_feed.ensures
