use Rattle.std.proofs.Common.{◌≡◌, sym, subst, ℕ, Result, take}
use Rattle.std.specs.Prelude.{IfOk, OnErr}
use Rattle.ccp_base.specs.declared.outside.Failed.{Failed}
use Rattle.ccp_base.specs.Outside.{Appends}
use Rattle.ccp_base.proofs.StreamLemmas.{write_keeps, write_appends}
use Rattle.ccp_base.proofs.stream.WriterSink.write.Goals as goal

pub returns-clause-kept : goal.returns-clause-kept
returns-clause-kept g c =
    let old = g.W.Write.contents c.args.self.now.stream in
    let new = g.W.Write.contents c.write-answer.new.self in
    let alike = g.met.W.WriteStream.known_by_type c.args.self.now.stream c.write-answer.new.self in
    subst (λ (r : Result ℕ Failed). OnErr r (new ≡ old)) (sym c.write_answer.ensures.told)
    (write_keeps old new alike _ c.args.bytes.now c.write-answer.result c.write-answer.ensures.bytes)

pub returns-clause-appends : goal.returns-clause-appends
returns-clause-appends g c =
    let old = g.W.Write.contents c.args.self.now.stream in
    let new = g.W.Write.contents c.write-answer.new.self in
    let alike = g.met.W.WriteStream.known_by_type c.args.self.now.stream c.write-answer.new.self in
    subst (λ (r : Result ℕ Failed). IfOk r (λ n. Appends old new (take n c.args.bytes.now))) (sym c.write_answer.ensures.told)
    (write_appends old new alike _ c.args.bytes.now c.write-answer.result c.write-answer.ensures.bytes)
