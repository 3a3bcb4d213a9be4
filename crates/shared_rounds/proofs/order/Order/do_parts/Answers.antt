use Rattle.std.proofs.Common.{rules, ◌≡◌, ◌%◌, map, length, List, sym, subst}
use Rattle.std.specs.List.{All}
use Rattle.shared_rounds.specs.KnownFlows.{FlowRound}
use Rattle.shared_rounds.proofs.OrderLemmas.{maps-as-before}
use Rattle.shared_rounds.proofs.order.Order.do_parts.Goals as goal

pub invariant_of-self-inside : goal.invariant_of-self-inside
invariant_of-self-inside g c =
    let order = c.self.inside in
    let items = order.earlier.items in
    let own : List FlowRound → Type 0 = λ parts. All (λ (part : FlowRound). (part.0 % order.workers ≡ order.worker) × (part.1 ≡ order.round)) parts in
    let is : order.earlier.len ≡ length items = search rules in
    let same : map {B = FlowRound} (λ part. (part.acks.number, part.acks.round)) c.do_all.new.parts
    ≡ map {B = FlowRound} (λ part. (part.acks.number, part.acks.round)) items = search rules in (
      subst own (sym (maps-as-before order.earlier.len items c.do_all.new.parts (λ part. (part.acks.number, part.acks.round)) is same)) order.own,
      (subst own (sym c.do_last.ensures.rounds) order.own_last, tt),
    )
