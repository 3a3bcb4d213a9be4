use Rattle.std.proofs.Common.{◌≡◌, ◌-◌, ◌<◌, ◌≤◌, Some, length, length-set, slice_get, slice_index_or, arith, sym, ◌∙◌}
use Rattle.std.proofs.lemmas.Option.{slice_get-get_or, same_Some}
use Rattle.circular_buffer.proofs.Places.{slice_get-set_other}
use Rattle.shared_rounds.specs.Rounds.{acks_in_round}
use Rattle.shared_rounds.specs.Orders.{order_of}
use Rattle.shared_rounds.proofs.KnownLemmas.{here-learns, done-next}
use Rattle.shared_rounds.proofs.worker_handle.do_all_here.Goals as goal

pub loop-left-preserved : goal.loop-left-preserved
loop-left-preserved g c =
    let l = c.loop-left in
    let round = c.args.round in
    let lists = acks_in_round g.C.Course.link g.C.Course.asks round in
    let workers = length c.args.orders.now in
    let at = l.left - 1 in
    let some = c.loop-left-test.true in
    let long = l.invariant.0 in
    let most = l.invariant.1 in
    let less : at < l.left = omega (arith, some) in
    let within : at < length l.orders = omega (arith, some, long, most) in
    let order = slice_index_or l.orders at c.index-orders-left.result in
    let there : slice_get l.orders at ≡ Some order = slice_get-get_or l.orders at c.index-orders-left.result within in
    let is : order ≡ order_of workers at round lists = same_Some order (order_of workers at round lists) (sym there ∙ l.invariant.2 at less) in
    let count = l.invariant.5 in
    let places : length lists ≤ length l.desk.known = omega (arith, count, c.requires.within) in
    let learns = here-learns round workers lists at order l.desk.known c.do_here.new.desk.known is places c.in_ok-do_here.ensures.known in (
      length-set l.orders at c.do_here.new.self ∙ long,
      omega (arith, most),
      (λ worker under. slice_get-set_other l.orders at worker c.do_here.new.self (λ same. omega (arith, under, same)) ∙ l.invariant.2 worker (omega (arith, under))),
      done-next round workers lists at l.desk.known c.do_here.new.desk.known learns
          (λ worker from under. l.invariant.3 worker (omega (arith, from, some)) under),
      (λ number known. learns.stay number (l.invariant.4 number known)),
      learns.long ∙ count,
      c.in_ok-do_here.ensures.link ∙ l.invariant.6,
    )

pub returns-clause-stay : goal.returns-clause-stay
returns-clause-stay g c = c.loop-left.invariant.4

pub returns-clause-count : goal.returns-clause-count
returns-clause-count g c = c.loop-left.invariant.5

pub returns-clause-link : goal.returns-clause-link
returns-clause-link g c = c.loop-left.invariant.6
