use Rattle.std.proofs.Common.{◌≡◌, ◌+◌, ◌<◌, ◌≤◌, Bool, Some, List, length, length-set, map, slice_get, slice_index_or, arith, ap, subst, sym, ◌∙◌}
use Rattle.std.proofs.lemmas.Option.{slice_get-get_or}
use Rattle.std.proofs.lemmas.List.{map-set}
use Rattle.shared_rounds.specs.Rounds.{acks_in_round}
use Rattle.shared_rounds.specs.KnownFlows.{AreDoneOrOut}
use Rattle.shared_rounds.proofs.KnownLemmas.{mapped-at, taken-learns, out-rest, done-below}
use Rattle.shared_rounds.proofs.worker_handle.take_back_all.Goals as goal

pub loop-worker-preserved : goal.loop-worker-preserved
loop-worker-preserved g c =
    let l = c.loop-worker in
    let round = c.args.round in
    let lists = acks_in_round g.C.Course.link g.C.Course.asks round in
    let workers = length c.args.orders.now in
    let at = l.worker in
    let less : at < workers = omega (arith, c.loop-worker-test.true) in
    let long = l.invariant.1 in
    let count = l.invariant.5 in
    let places : length lists ≤ length l.desk.known = omega (arith, count, c.requires.within) in
    let was = slice_index_or l.handles at c.index-handles-place.result in
    let there : slice_get l.handles at ≡ Some was = slice_get-get_or l.handles at c.index-handles-place.result (omega (arith, less, long)) in
    let new = c.take_back.new.desk.known in
    let handle = c.take_back.new.handle in
    let taken = c.in_ok-take_back.ensures in
    let busy = map {B = Bool} (λ handle. handle.is_busy) l.handles in
    let idle = mapped-at {B = Bool} (λ handle. handle.is_busy) l.handles at was there in
    let learns = taken-learns round workers lists at was.is_busy l.desk.known new places taken.none taken.known
    (λ free. l.invariant.2 at (omega arith) less (idle ∙ ap (λ (b : Bool). Some b) free)) in
    let set_ = map-set {B = Bool} (λ handle. handle.is_busy) l.handles at handle in (
      length-set l.orders at c.take_back.new.place ∙ l.invariant.0,
      length-set l.handles at handle ∙ long,
      subst (λ (list : List Bool). AreDoneOrOut workers round lists list new (at + 1)) (sym set_)
          (out-rest round workers lists at busy handle.is_busy l.desk.known new learns.stay l.invariant.2),
      done-below round workers lists at l.desk.known new learns l.invariant.3,
      (λ number known. learns.stay number (l.invariant.4 number known)),
      learns.long ∙ count,
      taken.link ∙ l.invariant.6,
    )
