use Rattle.std.proofs.Common.{◌≡◌, ◌+◌, ◌≤◌, ◌<◌, ℕ, set, List, [], ◌∷◌, ◌++◌, Some, take, length, slice_get, arith, ap, sym, refl, ◌∙◌, subst}
use Rattle.std.proofs.lemmas.List.{length-take-le}
use Rattle.std.specs.Vec.Iter.{drain_items}
use Rattle.ccp_base.specs.declared.ack.Ack.{Ack}
use Rattle.shared_rounds.specs.Rounds.{acks_in_round}
use Rattle.shared_rounds.specs.Orders.{AreDealt}
use Rattle.shared_rounds.specs.KnownFlows.{IsKnown}
use Rattle.shared_rounds.proofs.KnownLemmas.{DealsKnown, dealt-length, dealt-from, dealt-rested}
use Rattle.shared_rounds.proofs.RoundsLemmas.{drop_get, dropped_on, taken_on}
use Rattle.shared_rounds.proofs.rounds.deal.Goals as goal

pub new-acks-requires-clause-are : goal.new-acks-requires-clause-are
new-acks-requires-clause-are g c =
    let l = c.loop-list in
    let rest = drain_items c.next.new.self in
    let is : drain_items l.list-iterator ≡ c.in-Some.list ∷ rest = c.in-Some.ensures.steps.0 in
    drop_get (acks_in_round g.C.Course.link g.C.Course.asks c.args.round) l.number c.in-Some.list rest (sym is ∙ l.invariant.0)

pub deal_part-requires-clause-before : goal.deal_part-requires-clause-before
deal_part-requires-clause-before g c =
    let l = c.loop-list in
    let all = acks_in_round g.C.Course.link g.C.Course.asks c.args.round in
    let is : drain_items l.list-iterator ≡ c.in-Some.list ∷ drain_items c.next.new.self = c.in-Some.ensures.steps.0 in
    let shorter = ap (λ (xs : List (List Ack)). length xs) is in
    let within : l.number ≤ length all = omega (arith, shorter, l.invariant.1) in (
      take l.number all,
      length-take-le l.number all within ∙ sym c.new-acks.ensures.number,
      subst (λ (r : ℕ). AreDealt c.args.workers r (take l.number all) l.orders) (sym c.new-acks.ensures.round) l.invariant.2,
    )

pub deal_part-requires-clause-known : goal.deal_part-requires-clause-known
deal_part-requires-clause-known g c =
    let l = c.loop-list in
    let all = acks_in_round g.C.Course.link g.C.Course.asks c.args.round in
    let is : drain_items l.list-iterator ≡ c.in-Some.list ∷ drain_items c.next.new.self = c.in-Some.ensures.steps.0 in
    let shorter = ap (λ (xs : List (List Ack)). length xs) is in
    let many = ap (λ (xs : List (List Ack)). length xs) c.requires.lists in
    let less : l.number < length l.desk.known = omega (arith, shorter, l.invariant.1, l.invariant.4, c.requires.places, many) in
    let here : IsKnown l.desk.known l.number c.args.round = l.invariant.5 l.number (omega arith) less in
    subst (λ (r : ℕ). IsKnown l.desk.known c.new-acks.result.number r) (sym c.new-acks.ensures.round)
    (subst (λ (n : ℕ). IsKnown l.desk.known n c.args.round) (sym c.new-acks.ensures.number) here)

pub loop-list-preserved : goal.loop-list-preserved
loop-list-preserved g c =
    let l = c.loop-list in
    let link = g.C.Course.link in
    let asks = g.C.Course.asks in
    let round = c.args.round in
    let workers = c.args.workers in
    let number = l.number in
    let all = acks_in_round link asks round in
    let list = c.in-Some.list in
    let acks = c.new-acks.result in
    let old = l.desk.known in
    let new = c.deal_part.new.desk.known in
    let rest = drain_items c.next.new.self in
    let is : drain_items l.list-iterator ≡ list ∷ rest = c.in-Some.ensures.steps.0 in
    let shorter = ap (λ (xs : List (List Ack)). length xs) is in
    let many = ap (λ (xs : List (List Ack)). length xs) c.requires.lists in
    let within : number ≤ length all = omega (arith, shorter, l.invariant.1) in
    let at : slice_get all number ≡ Some list = drop_get all number list rest (sym is ∙ l.invariant.0) in
    let same : acks.acks ≡ list = c.new-acks.ensures.acks in
    let longer : take number all ++ acks.acks ∷ [] ≡ take (number + 1) all =
    ap (λ (a : List Ack). take number all ++ a ∷ []) same ∙ taken_on all (take number all) (take number all ++ list ∷ []) number list refl refl at in
    let dealt : AreDealt workers acks.round (take number all ++ acks.acks ∷ []) c.deal_part.new.orders =
    c.in_ok-deal_part.ensures.orders (take number all) (length-take-le number all within ∙ sym c.new-acks.ensures.number)
    (subst (λ (r : ℕ). AreDealt workers r (take number all) l.orders) (sym c.new-acks.ensures.round) l.invariant.2) in
    let deals : DealsKnown round workers all number list old new = record {
      rested =
          (λ none.
          c.in_ok-deal_part.ensures.rested (ap (λ (xs : List Ack). length xs) same ∙ none)
          ∙ (λ i. set old (c.new-acks.ensures.number i) (c.new-acks.ensures.number i, c.new-acks.ensures.round i + 1)));
      same = (λ some. c.in_ok-deal_part.ensures.same (subst (λ (xs : List Ack). 0 < length xs) (sym same) some));
    } in
    let less : number < length old = omega (arith, shorter, l.invariant.1, l.invariant.4, c.requires.places, many) in (
      dropped_on all number list rest (sym is ∙ l.invariant.0),
      omega (arith, shorter, l.invariant.1),
      subst (λ (xs : List (List Ack)). AreDealt workers round xs c.deal_part.new.orders) longer
          (subst (λ (r : ℕ). AreDealt workers r (take number all ++ acks.acks ∷ []) c.deal_part.new.orders) c.new-acks.ensures.round dealt),
      c.in_ok-deal_part.ensures.link ∙ l.invariant.3,
      dealt-length round workers all number list old new deals ∙ l.invariant.4,
      dealt-from round workers all number list old new deals l.invariant.5,
      dealt-rested round workers all number list old new less at deals l.invariant.6,
    )

pub new-acks-requires-clause-few : goal.new-acks-requires-clause-few
new-acks-requires-clause-few g c = c.requires.round

pub deal_part-requires-clause-workers : goal.deal_part-requires-clause-workers
deal_part-requires-clause-workers g c = c.requires.workers
