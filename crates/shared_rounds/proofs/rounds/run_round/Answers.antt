use Rattle.std.proofs.Common.{rules, ◌≡◌, ◌+◌, ◌<◌, ℕ, List, [], length, arith, sym, ap, ◌∙◌, subst}
use Rattle.ccp_base.specs.declared.ack.Ack.{Ack}
use Rattle.shared_link.specs.declared.round.Ask.{Ask}
use Rattle.shared_link.specs.declared.shared_case.SharedCase.{SharedCase}
use Rattle.shared_link.specs.SharedRounds.{acks_after}
use Rattle.shared_link.specs.SharedStanding.{SharedState}
use Rattle.shared_rounds.specs.Rounds.{asked_before, acks_in_round, StandsAfter}
use Rattle.shared_rounds.specs.Orders.{AreDealt}
use Rattle.shared_rounds.specs.KnownFlows.{AreRested}
use Rattle.shared_rounds.proofs.KnownLemmas.{all-known}
use Rattle.shared_rounds.proofs.RoundsLemmas.{on-ok, acks-count, stands-next}
use Rattle.shared_rounds.proofs.rounds.run_round.Goals as goal

pub round_into-requires-clause-asks : goal.round_into-requires-clause-asks
round_into-requires-clause-asks g c =
    ap (λ (list : List Ask). length list) (c.as_slice.ensures.value ∙ c.requires.asks) ∙ g.C.Course.asks_law c.args.done ∙ sym c.requires.links
    ∙ sym (ap (λ (case : SharedCase). length case.flows) c.requires.stands.case)

pub deal-requires-clause-lists : goal.deal-requires-clause-lists
deal-requires-clause-lists g c =
    let link = g.C.Course.link in
    let asks = g.C.Course.asks in
    let history = asked_before asks c.args.done in
    c.in_ok-round_into.ensures.acks history c.requires.stands.stands
    ∙ (λ i. acks_after (c.requires.stands.case i) history ((c.as_slice.ensures.value ∙ c.requires.asks) i))

pub deal-requires-clause-none : goal.deal-requires-clause-none
deal-requires-clause-none g c =
    subst (λ (n : ℕ). AreDealt n c.args.done [] c.begin_orders.new.orders) c.requires.orders c.begin_orders.ensures

pub deal-requires-clause-few : goal.deal-requires-clause-few
deal-requires-clause-few g c =
    let link = g.C.Course.link in
    let asks = g.C.Course.asks in
    let history = asked_before asks c.args.done in
    let lists : c.round_into.new.answers.items ≡ acks_in_round link asks c.args.done =
    c.in_ok-round_into.ensures.acks history c.requires.stands.stands
    ∙ (λ i. acks_after (c.requires.stands.case i) history ((c.as_slice.ensures.value ∙ c.requires.asks) i)) in
    let many = ap (λ (xs : List (List Ack)). length xs) lists in
    omega (arith, many, acks-count link asks c.args.done, c.requires.links, c.requires.few)

pub deal-requires-clause-places : goal.deal-requires-clause-places
deal-requires-clause-places g c =
    let link = g.C.Course.link in
    let asks = g.C.Course.asks in
    let history = asked_before asks c.args.done in
    let lists : c.round_into.new.answers.items ≡ acks_in_round link asks c.args.done =
    c.in_ok-round_into.ensures.acks history c.requires.stands.stands
    ∙ (λ i. acks_after (c.requires.stands.case i) history ((c.as_slice.ensures.value ∙ c.requires.asks) i)) in
    let many = ap (λ (xs : List (List Ack)). length xs) lists in
    omega (arith, many, acks-count link asks c.args.done, c.requires.links, c.requires.count)

pub do_orders-requires-clause-dealt : goal.do_orders-requires-clause-dealt
do_orders-requires-clause-dealt g c =
    let link = g.C.Course.link in
    let asks = g.C.Course.asks in
    let history = asked_before asks c.args.done in
    let lists : c.round_into.new.answers.items ≡ acks_in_round link asks c.args.done =
    c.in_ok-round_into.ensures.acks history c.requires.stands.stands
    ∙ (λ i. acks_after (c.requires.stands.case i) history ((c.as_slice.ensures.value ∙ c.requires.asks) i)) in
    let workers : length c.args.handles.now ≡ length c.deal.new.orders = search rules in
    subst (λ (n : ℕ). AreDealt n c.args.done (acks_in_round link asks c.args.done) c.deal.new.orders) workers
    (subst (λ (xs : List (List Ack)). AreDealt (length c.args.handles.now) c.args.done xs c.deal.new.orders) lists c.in_ok-deal.ensures.orders)

pub do_orders-requires-clause-within : goal.do_orders-requires-clause-within
do_orders-requires-clause-within g c =
    let count = c.in_ok-deal.ensures.count in
    omega (arith, acks-count g.C.Course.link g.C.Course.asks c.args.done, c.requires.links, c.requires.count, count)

pub collect_asks-requires-clause-known : goal.collect_asks-requires-clause-known
collect_asks-requires-clause-known g c =
    let link = g.C.Course.link in
    let asks = g.C.Course.asks in
    let history = asked_before asks c.args.done in
    let all = acks_in_round link asks c.args.done in
    let lists : c.round_into.new.answers.items ≡ all =
    c.in_ok-round_into.ensures.acks history c.requires.stands.stands
    ∙ (λ i. acks_after (c.requires.stands.case i) history ((c.as_slice.ensures.value ∙ c.requires.asks) i)) in
    let workers = length c.deal.new.orders in
    let some : 0 < workers = search rules in
    let new = c.do_orders.new.desk.known in
    let dealt = c.in_ok-deal.ensures.count in
    let done = c.in_ok-do_orders.ensures in
    let count = done.count in
    let long : length new ≡ length all = omega (arith, dealt, count, acks-count link asks c.args.done, c.requires.links, c.requires.count) in
    let rested : AreRested c.args.done all c.deal.new.desk.known = subst (λ (xs : List (List Ack)). AreRested c.args.done xs c.deal.new.desk.known) lists c.in_ok-deal.ensures.rested in
    all-known c.args.done workers all new some long
    (λ number acks at none. done.stay number (rested number acks at none)) done.done

pub collect_asks-requires-clause-flows : goal.collect_asks-requires-clause-flows
collect_asks-requires-clause-flows g c =
    c.in_ok-do_orders.ensures.count ∙ c.in_ok-deal.ensures.count ∙ c.requires.count
    ∙ sym (g.C.Course.asks_law (c.args.done + 1))

pub returns-clause-stands : goal.returns-clause-stands
returns-clause-stands g c =
    let same : c.do_orders.new.desk.link ≡ c.round_into.new.self = c.in_ok-do_orders.ensures.link ∙ c.in_ok-deal.ensures.link in
    on-ok c.collect_asks.result
    (subst (λ (state : SharedState). StandsAfter g.C.Course.link g.C.Course.asks (c.args.done + 1) state) (sym same)
    (stands-next g.C.Course.link g.C.Course.asks c.args.done c.args.desk.now.link c.round_into.new.self c.as_slice.result.now c.requires.stands c.in_ok-round_into.ensures.case
    c.in_ok-round_into.ensures.rounds c.in_ok-round_into.ensures.stands (c.as_slice.ensures.value ∙ c.requires.asks)))

pub returns-clause-count : goal.returns-clause-count
returns-clause-count g c =
    on-ok c.collect_asks.result (c.in_ok-do_orders.ensures.count ∙ c.in_ok-deal.ensures.count ∙ c.requires.count)

pub returns-clause-known : goal.returns-clause-known
returns-clause-known g c =
    let link = g.C.Course.link in
    let asks = g.C.Course.asks in
    let history = asked_before asks c.args.done in
    let all = acks_in_round link asks c.args.done in
    let lists : c.round_into.new.answers.items ≡ all =
    c.in_ok-round_into.ensures.acks history c.requires.stands.stands
    ∙ (λ i. acks_after (c.requires.stands.case i) history ((c.as_slice.ensures.value ∙ c.requires.asks) i)) in
    let workers = length c.deal.new.orders in
    let some : 0 < workers = search rules in
    let new = c.do_orders.new.desk.known in
    let dealt = c.in_ok-deal.ensures.count in
    let done = c.in_ok-do_orders.ensures in
    let count = done.count in
    let long : length new ≡ length all = omega (arith, dealt, count, acks-count link asks c.args.done, c.requires.links, c.requires.count) in
    let rested : AreRested c.args.done all c.deal.new.desk.known = subst (λ (xs : List (List Ack)). AreRested c.args.done xs c.deal.new.desk.known) lists c.in_ok-deal.ensures.rested in
    on-ok c.collect_asks.result
    (all-known c.args.done workers all new some long
    (λ number acks at none. done.stay number (rested number acks at none)) done.done)

pub deal-requires-clause-known : goal.deal-requires-clause-known
deal-requires-clause-known g c = c.requires.known

pub deal-requires-clause-round : goal.deal-requires-clause-round
deal-requires-clause-round g c = c.requires.rounds

pub collect_asks-requires-clause-few : goal.collect_asks-requires-clause-few
collect_asks-requires-clause-few g c =
    let dealt = c.in_ok-deal.ensures.count in
    let done = c.in_ok-do_orders.ensures.count in
    omega (arith, dealt, done, c.requires.count, c.requires.few)

pub returns-clause-asks : goal.returns-clause-asks
returns-clause-asks g c = c.collect_asks.ensures
