use Rattle.std.proofs.Common.{OnOk, sym, subst}
use Rattle.ccp_base.specs.Outside.{Appends}
use Rattle.feed_core.specs.Feed.{Answer}
use Rattle.feed_core.specs.FeedBytes.{answer_bytes}
use Rattle.feed_core.proofs.answering.write_answer.Goals as goal

pub returns-in-Some-clause-written : goal.returns-in-Some-clause-written
returns-in-Some-clause-written g c =
    subst (λ (answer : Answer). OnOk c.write.result (Appends (g.D.Duplex.written c.args.duplex.now) (g.D.Duplex.written c.write.new.duplex) (answer_bytes answer))) (sym c.in-Some.is) c.write.ensures.written
