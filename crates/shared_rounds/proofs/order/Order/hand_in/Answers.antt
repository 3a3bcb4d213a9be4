use Rattle.std.proofs.Common.{◌≡◌, ◌%◌, List, map, option_to_list, ap, ◌∙◌}
use Rattle.shared_rounds.specs.Orders.{OrderState}
use Rattle.shared_rounds.specs.KnownFlows.{FlowRound, flow_rounds, with_rounds_back}
use Rattle.shared_rounds.proofs.KnownLemmas.{order-back}
use Rattle.shared_rounds.proofs.order.Order.hand_in.Goals as goal

pub returns-clause-known : goal.returns-clause-known
returns-clause-known g c =
    let order = c.self.inside in
    let known = c.args.desk.now.known in
    c.in_ok-take_in_all.ensures.known
    ∙ ap (λ (k : List FlowRound). with_rounds_back (map {B = FlowRound} (λ part. (part.acks.number, part.acks.round)) order.earlier.items) k) c.in_ok-take_in_last.ensures.known
    ∙ order-back (λ part. part.acks.number) (λ part. part.acks.round) (λ part. part.acks.acks) (λ flow. flow.0 % order.workers ≡ order.worker) order.round
    order.earlier.items (option_to_list order.last) known order.own order.own_last
    ∙ ap (λ (o : OrderState). with_rounds_back (flow_rounds o.round o.parts) known) c.self.view_is
