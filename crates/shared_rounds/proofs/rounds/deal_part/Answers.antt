use Rattle.std.proofs.Common.{◌≡◌, ◌<◌, ◌%◌, Some, length, slice_get, slice_index_or, rules, ap, sym, ◌∙◌}
use Rattle.std.proofs.lemmas.Option.{slice_get-get_or, slice_get_within, same_Some}
use Rattle.std.proofs.lemmas.Result.{on_ok_weaker}
use Rattle.shared_rounds.specs.Orders.{with_flow_part}
use Rattle.shared_rounds.specs.KnownFlows.{FlowRound}
use Rattle.shared_rounds.proofs.OrderLemmas.{deals-none, worker-there, worker-own, worker-round, deals-part}
use Rattle.shared_rounds.proofs.rounds.deal_part.Goals as goal

pub returns-then-is_empty-clause-orders : goal.returns-then-is_empty-clause-orders
returns-then-is_empty-clause-orders g c =
    let none : length c.args.acks.acks ≡ 0 = search rules in
    deals-none c.args.workers c.args.acks.round c.args.acks.number c.args.acks.acks c.args.orders.now none

pub at-known-requires : goal.at-known-requires
at-known-requires g c =
    slice_get_within c.args.desk.now.known c.args.acks.number (c.args.acks.number, c.args.acks.round) c.requires.known

pub rest_since-requires-clause-number : goal.rest_since-requires-clause-number
rest_since-requires-clause-number g c =
    let known = c.at-known.result.now in
    let same : (known.number, known.round) ≡ (c.args.acks.number, c.args.acks.round) =
    same_Some (known.number, known.round) (c.args.acks.number, c.args.acks.round) (sym c.at-known.ensures ∙ c.requires.known) in
    ap (λ (flow : FlowRound). flow.0) same

pub rest_since-requires-clause-round : goal.rest_since-requires-clause-round
rest_since-requires-clause-round g c =
    let known = c.at-known.result.now in
    let same : (known.number, known.round) ≡ (c.args.acks.number, c.args.acks.round) =
    same_Some (known.number, known.round) (c.args.acks.number, c.args.acks.round) (sym c.at-known.ensures ∙ c.requires.known) in
    ap (λ (flow : FlowRound). flow.1) same

pub bounds-orders-worker : goal.bounds-orders-worker
bounds-orders-worker g c =
    worker-there c.args.workers c.args.acks.round c.args.acks.number c.args.orders.now c.requires.workers c.requires.before c.worker_of-worker.result
    c.worker_of-worker.ensures

pub push-requires-clause-own : goal.push-requires-clause-own
push-requires-clause-own g c =
    let orders = c.args.orders.now in
    let number = c.args.acks.number in
    let worker = c.worker_of-worker.result in
    let order = slice_index_or orders worker c.index-orders-worker.result in
    let less = worker-there c.args.workers c.args.acks.round number orders c.requires.workers c.requires.before worker c.worker_of-worker.ensures in
    let at : slice_get orders worker ≡ Some order = slice_get-get_or orders worker c.index-orders-worker.result less in
    ap (λ n. n % order.workers) c.rest_since.ensures.number
    ∙ worker-own c.args.workers c.args.acks.round number orders c.requires.workers c.requires.before worker order c.worker_of-worker.ensures at

pub push-requires-clause-round : goal.push-requires-clause-round
push-requires-clause-round g c =
    let orders = c.args.orders.now in
    let number = c.args.acks.number in
    let worker = c.worker_of-worker.result in
    let order = slice_index_or orders worker c.index-orders-worker.result in
    let less = worker-there c.args.workers c.args.acks.round number orders c.requires.workers c.requires.before worker c.worker_of-worker.ensures in
    let at : slice_get orders worker ≡ Some order = slice_get-get_or orders worker c.index-orders-worker.result less in
    c.rest_since.ensures.round
    ∙ worker-round c.args.workers c.args.acks.round number orders c.requires.workers c.requires.before worker order c.worker_of-worker.ensures at

pub returns-clause-orders : goal.returns-clause-orders
returns-clause-orders g c =
    let orders = c.args.orders.now in
    let number = c.args.acks.number in
    let worker = c.worker_of-worker.result in
    let order = slice_index_or orders worker c.index-orders-worker.result in
    let less = worker-there c.args.workers c.args.acks.round number orders c.requires.workers c.requires.before worker c.worker_of-worker.ensures in
    let at : slice_get orders worker ≡ Some order = slice_get-get_or orders worker c.index-orders-worker.result less in
    let some : 0 < length c.args.acks.acks = search rules in
    let rested = c.rest_since.ensures in
    on_ok_weaker c.push.result
    (λ made.
    deals-part c.args.workers c.args.acks.round number c.args.acks.acks orders order c.push.new.self worker some c.worker_of-worker.ensures at
    (made ∙ (λ i. with_flow_part (rested.number i, rested.acks i) order)))
    c.push.ensures
