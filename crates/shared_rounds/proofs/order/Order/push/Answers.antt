use Rattle.std.proofs.Common.{rules, ◌≡◌, ◌%◌, map, option_to_list, Some, is_ok, sym, ◌∙◌, subst}
use Rattle.std.specs.List.{All}
use Rattle.shared_rounds.specs.KnownFlows.{FlowRound}
use Rattle.shared_rounds.proofs.OrderLemmas.{own-pushed}
use Rattle.shared_rounds.proofs.order.Order.push.Goals as goal

pub invariant_of-self-inside : goal.invariant_of-self-inside
invariant_of-self-inside g c =
    let order = c.self.inside in
    let own : FlowRound → Type 0 = λ part. (part.0 % order.workers ≡ order.worker) × (part.1 ≡ order.round) in
    let was : order.last ≡ Some c.in-Some.part = sym c.replace-before.ensures.value ∙ c.in-Some.is in (
      own-pushed own (λ part. (part.acks.number, part.acks.round)) (is_ok c.push.result) order.earlier.items c.push.new.self.items c.in-Some.part c.push.ensures.items order.own
          (subst (λ last. All own (map {B = FlowRound} (λ part. (part.acks.number, part.acks.round)) (option_to_list last))) was order.own_last),
      (search rules, tt),
    )
