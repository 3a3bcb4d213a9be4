use Rattle.std.proofs.Common.{rules, ◌≡◌, ◌%◌, List, map, option_to_list, ap, ◌∙◌}
use Rattle.shared_rounds.specs.Orders.{OrderState}
use Rattle.shared_rounds.specs.KnownFlows.{FlowRound, flow_rounds, with_rounds}
use Rattle.shared_rounds.proofs.KnownLemmas.{order-here}
use Rattle.shared_rounds.proofs.order.Order.do_here.Goals as goal

pub returns-clause-known : goal.returns-clause-known
returns-clause-known g c =
    let order = c.self.inside in
    let known = c.args.desk.now.known in
    let items : c.as_slice.result.now ≡ order.earlier.items = search rules in
    let first : c.know_all.new.known ≡ with_rounds (map {B = FlowRound} (λ part. (part.acks.number, part.acks.round)) order.earlier.items) known =
    c.in_ok-know_all.ensures ∙ ap (λ parts. with_rounds (map {B = FlowRound} (λ part. (part.acks.number, part.acks.round)) parts) known) items in
    c.give_back_last.ensures.known ∙ c.give_back_all.ensures.known ∙ c.in_ok-know_last.ensures
    ∙ ap (λ (k : List FlowRound). with_rounds (map {B = FlowRound} (λ part. (part.acks.number, part.acks.round)) (option_to_list order.last)) k) first
    ∙ order-here (λ part. part.acks.number) (λ part. part.acks.round) (λ part. part.acks.acks) (λ flow. flow.0 % order.workers ≡ order.worker) order.round
    order.earlier.items (option_to_list order.last) known order.own order.own_last
    ∙ ap (λ (o : OrderState). with_rounds (flow_rounds o.round o.parts) known) c.self.view_is
