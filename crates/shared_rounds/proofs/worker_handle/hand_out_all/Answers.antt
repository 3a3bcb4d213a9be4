use Rattle.std.proofs.Common.{◌≡◌, ◌<◌, ◌≤◌, Bool, Some, length, length-set, map, slice_get, slice_index_or, arith, sym, ◌∙◌}
use Rattle.std.proofs.lemmas.Option.{slice_get-get_or, same_Some}
use Rattle.std.proofs.lemmas.List.{map-set}
use Rattle.circular_buffer.proofs.Places.{slice_get-set_other}
use Rattle.shared_rounds.specs.Rounds.{acks_in_round}
use Rattle.shared_rounds.specs.Orders.{order_of}
use Rattle.shared_rounds.proofs.KnownLemmas.{handed-out, out-next}
use Rattle.shared_rounds.proofs.worker_handle.hand_out_all.Goals as goal

pub hand_out-requires : goal.hand_out-requires
hand_out-requires g c =
    let l = c.loop-worker in
    let round = c.args.round in
    let lists = acks_in_round g.C.Course.link g.C.Course.asks round in
    let workers = length c.args.orders.now in
    let long = l.invariant.0 in
    let less : l.worker < workers = omega (arith, c.loop-worker-test.true) in
    let order = slice_index_or l.orders l.worker c.index-orders-worker.result in
    let there : slice_get l.orders l.worker ≡ Some order = slice_get-get_or l.orders l.worker c.index-orders-worker.result (omega (arith, less, long)) in
    let is : order ≡ order_of workers l.worker round lists = same_Some order (order_of workers l.worker round lists) (sym there ∙ l.invariant.2 l.worker (omega arith) less) in
    is ∙ (λ i. order_of (sym is i).workers (sym is i).worker (sym is i).round (acks_in_round g.C.Course.link g.C.Course.asks (sym is i).round))

pub loop-worker-preserved : goal.loop-worker-preserved
loop-worker-preserved g c =
    let l = c.loop-worker in
    let round = c.args.round in
    let lists = acks_in_round g.C.Course.link g.C.Course.asks round in
    let workers = length c.args.orders.now in
    let at = l.worker in
    let first = c.args.first in
    let long = l.invariant.0 in
    let less : at < workers = omega (arith, c.loop-worker-test.true) in
    let order = slice_index_or l.orders at c.index-orders-worker.result in
    let there : slice_get l.orders at ≡ Some order = slice_get-get_or l.orders at c.index-orders-worker.result (omega (arith, less, long)) in
    let is : order ≡ order_of workers at round lists = same_Some order (order_of workers at round lists) (sym there ∙ l.invariant.2 at (omega arith) less) in
    let count = l.invariant.6 in
    let places : length lists ≤ length l.desk.known = omega (arith, count, c.requires.within) in
    let handle = c.hand_out.new.handle in
    let new = c.hand_out.new.desk.known in
    let out = handed-out round workers lists at order handle.is_busy l.desk.known new is places c.in_ok-hand_out.ensures.out c.in_ok-hand_out.ensures.here in
    let busy = map-set {B = Bool} (λ handle. handle.is_busy) l.handles at handle in (
      length-set l.orders at c.hand_out.new.order ∙ long,
      length-set l.handles at handle ∙ l.invariant.1,
      (λ worker from under. slice_get-set_other l.orders at worker c.hand_out.new.order (λ same. omega (arith, from, same)) ∙ l.invariant.2 worker (omega (arith, from)) under),
      (λ worker from under idle.
          out-next round workers lists first at (map {B = Bool} (λ handle. handle.is_busy) l.handles) handle.is_busy l.desk.known new out.stay out.here l.invariant.3 worker from under
          (sym (λ i. slice_get (busy i) worker) ∙ idle)),
      (λ worker under. slice_get-set_other l.orders at worker c.hand_out.new.order (λ same. omega (arith, under, same)) ∙ l.invariant.4 worker under),
      (λ number known. out.stay number (l.invariant.5 number known)),
      out.long ∙ count,
      c.in_ok-hand_out.ensures.link ∙ l.invariant.7,
    )

pub returns-clause-stay : goal.returns-clause-stay
returns-clause-stay g c = c.loop-worker.invariant.5

pub returns-clause-count : goal.returns-clause-count
returns-clause-count g c = c.loop-worker.invariant.6

pub returns-clause-link : goal.returns-clause-link
returns-clause-link g c = c.loop-worker.invariant.7

pub returns-clause-front : goal.returns-clause-front
returns-clause-front g c = c.loop-worker.invariant.4
