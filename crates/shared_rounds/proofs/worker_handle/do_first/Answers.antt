use Rattle.std.proofs.Common.{◌≡◌, ◌<◌, Some, length, slice_get, slice_index_or, arith, sym, ◌∙◌}
use Rattle.std.proofs.lemmas.Option.{slice_get-get_or, same_Some}
use Rattle.std.proofs.lemmas.Result.{on_ok_weaker}
use Rattle.shared_rounds.specs.Rounds.{acks_in_round}
use Rattle.shared_rounds.specs.Orders.{order_of}
use Rattle.shared_rounds.proofs.KnownLemmas.{here-learns}
use Rattle.shared_rounds.proofs.worker_handle.do_first.Goals as goal

pub returns-then-first-orders-clause-count : goal.returns-then-first-orders-clause-count
returns-then-first-orders-clause-count g c =
    let round = c.args.round in
    let lists = acks_in_round g.C.Course.link g.C.Course.asks round in
    let orders = c.args.orders.now in
    let first = c.args.first in
    let less : first < length orders = omega (arith, c.if-first-orders.true) in
    let order = slice_index_or orders first c.index-orders-first.result in
    let there : slice_get orders first ≡ Some order = slice_get-get_or orders first c.index-orders-first.result less in
    let is = same_Some order (order_of (length orders) first round lists) (sym there ∙ c.requires.dealt less) in
    on_ok_weaker c.do_here.result (λ known. (here-learns round (length orders) lists first order c.args.desk.now.known c.do_here.new.desk.known is c.requires.within known).long) c.do_here.ensures.known

pub returns-then-first-orders-clause-stay : goal.returns-then-first-orders-clause-stay
returns-then-first-orders-clause-stay g c =
    let round = c.args.round in
    let lists = acks_in_round g.C.Course.link g.C.Course.asks round in
    let orders = c.args.orders.now in
    let first = c.args.first in
    let less : first < length orders = omega (arith, c.if-first-orders.true) in
    let order = slice_index_or orders first c.index-orders-first.result in
    let there : slice_get orders first ≡ Some order = slice_get-get_or orders first c.index-orders-first.result less in
    let is = same_Some order (order_of (length orders) first round lists) (sym there ∙ c.requires.dealt less) in
    on_ok_weaker c.do_here.result (λ known. (here-learns round (length orders) lists first order c.args.desk.now.known c.do_here.new.desk.known is c.requires.within known).stay) c.do_here.ensures.known

pub returns-then-first-orders-clause-done : goal.returns-then-first-orders-clause-done
returns-then-first-orders-clause-done g c =
    let round = c.args.round in
    let lists = acks_in_round g.C.Course.link g.C.Course.asks round in
    let orders = c.args.orders.now in
    let first = c.args.first in
    let less : first < length orders = omega (arith, c.if-first-orders.true) in
    let order = slice_index_or orders first c.index-orders-first.result in
    let there : slice_get orders first ≡ Some order = slice_get-get_or orders first c.index-orders-first.result less in
    let is = same_Some order (order_of (length orders) first round lists) (sym there ∙ c.requires.dealt less) in
    on_ok_weaker c.do_here.result (λ known within. (here-learns round (length orders) lists first order c.args.desk.now.known c.do_here.new.desk.known is c.requires.within known).done) c.do_here.ensures.known
