use Rattle.std.proofs.Common.{ap, ◌∙◌}
use Rattle.std.proofs.Math.Seq.{map-set_same}
use Rattle.shared_rounds.specs.Orders.{FlowPart}
use Rattle.shared_rounds.specs.KnownFlows.{FlowRound}
use Rattle.shared_rounds.proofs.order.do_all.Goals as goal

pub loop-part-preserved : goal.loop-part-preserved
loop-part-preserved g c =
    let l = c.loop-part in (
      map-set_same {B = FlowPart} (λ part. (part.acks.number, part.acks.acks)) l.parts l.part-index
          c.do_one.new.part c.part-item.result (ap (λ acks. (acks.number, acks.acks)) c.do_one.ensures.acks)
          ∙ l.invariant.0,
      map-set_same {B = FlowRound} (λ part. (part.acks.number, part.acks.round)) l.parts l.part-index
          c.do_one.new.part c.part-item.result (ap (λ acks. (acks.number, acks.round)) c.do_one.ensures.acks)
          ∙ l.invariant.1,
    )
