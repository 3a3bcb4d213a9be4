use Rattle.std.proofs.Common.{List, ℕ, subst}
use Rattle.ccp_base.specs.Outside.{AppendsPrefix}
use Rattle.feed_core.proofs.answering.write.Goals as goal

pub returns-in-Err-hand_over-clause-err : goal.returns-in-Err-hand_over-clause-err
returns-in-Err-hand_over-clause-err g c = (
  c.in-Err-hand_over.ensures.failed,
  subst (λ (bytes : List ℕ). AppendsPrefix (g.D.Duplex.written c.args.duplex.now) (g.D.Duplex.written c.hand_over.new.duplex) bytes) c.in-Ok.ensures.frame.1 c.in-Err-hand_over.ensures.front,
)
