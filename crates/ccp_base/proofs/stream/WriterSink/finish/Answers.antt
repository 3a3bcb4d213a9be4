use Rattle.ccp_base.proofs.StreamLemmas.{kept_known}
use Rattle.ccp_base.proofs.stream.WriterSink.finish.Goals as goal

pub returns-clause-kept : goal.returns-clause-kept
returns-clause-kept g c =
    let alike = g.met.W.WriteStream.known_by_type c.args.self.now.stream c.flush-answer.new.self in
    kept_known _ _ alike c.flush-answer.ensures.bytes
