use Rattle.std.proofs.Common.{rules, ◌≡◌, ◌<◌, ℕ, Bool, length, map, arith, sym, subst, ◌∙◌}
use Rattle.std.proofs.lemmas.Result.{on_ok_weaker}
use Rattle.shared_rounds.specs.Rounds.{acks_in_round}
use Rattle.shared_rounds.specs.Orders.{IsDealtAt}
use Rattle.shared_rounds.specs.KnownFlows.{IsDone, AreDone, AreDoneOrOut}
use Rattle.shared_rounds.proofs.KnownLemmas.{stay-done, all-out}
use Rattle.shared_rounds.proofs.worker_handle.do_by_threads.Goals as goal

pub do_first-requires-clause-dealt : goal.do_first-requires-clause-dealt
do_first-requires-clause-dealt g c =
    let lists = acks_in_round g.C.Course.link g.C.Course.asks c.args.round in
    let first = c.idle_at_front-first.result in
    let new = c.hand_out_all.new.orders in
    let same : length new ≡ length c.args.orders.now = search rules in
    subst (λ (n : ℕ). IsDealtAt n c.args.round lists new first) (sym same)
    (λ less. c.in_ok-hand_out_all.ensures.front first (omega arith) ∙ c.requires.dealt first less)

pub do_first-requires-clause-within : goal.do_first-requires-clause-within
do_first-requires-clause-within g c =
    let count = c.in_ok-hand_out_all.ensures.count in
    omega (arith, count, c.requires.within)

pub take_back_all-requires-clause-within : goal.take_back_all-requires-clause-within
take_back_all-requires-clause-within g c =
    let count = c.in_ok-hand_out_all.ensures.count in
    let next = c.in_ok-do_first.ensures.count in
    omega (arith, count, next, c.requires.within)

pub take_back_all-requires-clause-out : goal.take_back_all-requires-clause-out
take_back_all-requires-clause-out g c =
    let round = c.args.round in
    let lists = acks_in_round g.C.Course.link g.C.Course.asks round in
    let orders = c.args.orders.now in
    let workers = length orders in
    let first = c.idle_at_front-first.result in
    let busy = map {B = Bool} (λ handle. handle.is_busy) c.hand_out_all.new.handles in
    let old = c.hand_out_all.new.desk.known in
    let new = c.do_first.new.desk.known in
    let same : length c.hand_out_all.new.orders ≡ workers = search rules in
    let end : length c.do_first.new.orders ≡ workers = search rules in
    let here : first < workers → IsDone workers round lists new first =
    subst (λ (n : ℕ). first < n → IsDone n round lists new first) same c.in_ok-do_first.ensures.done in
    let out = c.in_ok-hand_out_all.ensures.out in
    subst (λ (n : ℕ). AreDoneOrOut n round lists busy new 0) (sym end)
    (all-out round workers lists first orders busy new c.requires.dealt c.idle_at_front-first.ensures.idle here
    (λ worker from less free. stay-done round workers lists worker old new c.in_ok-do_first.ensures.stay (out worker from less free)))

pub returns-clause-count : goal.returns-clause-count
returns-clause-count g c =
    on_ok_weaker c.take_back_all.result (λ count. count ∙ c.in_ok-do_first.ensures.count ∙ c.in_ok-hand_out_all.ensures.count) c.take_back_all.ensures.count

pub returns-clause-stay : goal.returns-clause-stay
returns-clause-stay g c =
    on_ok_weaker c.take_back_all.result
    (λ stay number known. stay number (c.in_ok-do_first.ensures.stay number (c.in_ok-hand_out_all.ensures.stay number known))) c.take_back_all.ensures.stay

pub returns-clause-done : goal.returns-clause-done
returns-clause-done g c =
    let lists = acks_in_round g.C.Course.link g.C.Course.asks c.args.round in
    let new = c.take_back_all.new.desk.known in
    let end : length c.do_first.new.orders ≡ length c.args.orders.now = search rules in
    on_ok_weaker c.take_back_all.result
    (λ done. subst (λ (n : ℕ). AreDone n c.args.round lists new) end done) c.take_back_all.ensures.done
