use Rattle.std.proofs.Common.{◌≡◌, sym, subst, ℕ, Result, take}
use Rattle.std.specs.Prelude.{IfOk, OnErr}
use Rattle.ccp_base.specs.declared.outside.Failed.{Failed}
use Rattle.ccp_base.specs.Outside.{Takes}
use Rattle.ccp_base.proofs.StreamLemmas.{read_keeps, read_takes}
use Rattle.ccp_base.proofs.stream.ReaderSource.read.Goals as goal

pub returns-clause-kept : goal.returns-clause-kept
returns-clause-kept g c =
    let old = g.R.Read.remaining c.args.self.now.stream in
    let new = g.R.Read.remaining c.read-answer.new.self in
    let alike = g.met.R.ReadStream.known_by_type c.args.self.now.stream c.read-answer.new.self in
    subst (λ (r : Result ℕ Failed). OnErr r (new ≡ old)) (sym c.read_answer.ensures.told)
    (read_keeps old new alike c.read-answer.new.buf c.read-answer.result c.read-answer.ensures.bytes)

pub returns-clause-taken : goal.returns-clause-taken
returns-clause-taken g c =
    let old = g.R.Read.remaining c.args.self.now.stream in
    let new = g.R.Read.remaining c.read-answer.new.self in
    let alike = g.met.R.ReadStream.known_by_type c.args.self.now.stream c.read-answer.new.self in
    subst (λ (r : Result ℕ Failed). IfOk r (λ n. Takes old new (take n c.read-answer.new.buf))) (sym c.read_answer.ensures.told)
    (read_takes old new alike c.read-answer.new.buf c.read-answer.result c.read-answer.ensures.bytes)
