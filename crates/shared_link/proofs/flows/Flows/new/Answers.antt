use Rattle.std.proofs.Common.{◌≡◌, ◌+◌, [], ◌∷◌, ◌++◌, length, get_or, subst, ap, sym, ◌∙◌, arith, length-append}
use Rattle.shared_link.specs.SharedRounds.{flow_link_at}
use Rattle.shared_link.specs.SharedStanding.{flow_standing}
use Rattle.shared_link.specs.Kept.{flow_under_way, IsFlowReady}
use Rattle.shared_link.proofs.FlowsLemmas.{each_push}
use Rattle.shared_link.proofs.flows.Flows.new.Goals as goal

pub loop-flow-preserved : goal.loop-flow-preserved
loop-flow-preserved c =
    let case = c.args.case.now in
    let flows = c.loop-flow.traffic.items in
    let all = c.push.new.self.items in
    let new = c.in_ok-new.field-0 in
    let inv = c.loop-flow.invariant in
    let pushed : all ≡ flows ++ new ∷ [] = c.in_ok-push.ensures.items in
    let count : length flows ≡ c.loop-flow.flow = inv.1 in
    let here : IsFlowReady (flow_link_at case (length flows)) 0 new =
    record {
      kept = c.in_ok-new.ensures.kept (flow_link_at case (length flows));
      sent = omega (arith, c.in_ok-new.ensures.sent);
      acks = c.in_ok-new.ensures.acks;
    } in (
      omega (arith, c.loop-flow-test.true, c.len.ensures),
      ap length pushed ∙ length-append flows (new ∷ []) ∙ ap (λ n. n + 1) count,
      λ flow other below.
          subst (λ xs. IsFlowReady (flow_link_at case flow) 0 (get_or xs flow other)) (sym pushed)
          (each_push (λ f t. IsFlowReady (flow_link_at case f) 0 t) flows new (λ f o inside. inv.2 f o (omega (arith, inside, count))) here flow other (omega (arith, below, count))),
      λ flow other below.
          subst (λ xs. flow_under_way (get_or xs flow other) ≡ flow_standing case.trace (flow_link_at case flow) [] []) (sym pushed)
          (each_push (λ f t. flow_under_way t ≡ flow_standing case.trace (flow_link_at case f) [] []) flows new (λ f o inside. inv.3 f o (omega (arith, inside, count)))
          (c.in_ok-new.ensures.standing case.trace (flow_link_at case (length flows))) flow other (omega (arith, below, count))),
    )
