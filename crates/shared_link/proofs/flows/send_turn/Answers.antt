use Rattle.std.proofs.Common.{ℕ, ◌+◌, ◌<◌, ◌≤◌, set, get_or, subst, sym, arith, rules}
use Rattle.shared_link.proofs.LackingLemmas.{TurnSoFar, turn-begins, turn-goes_on, turn-ends, lacking-over}
use Rattle.shared_link.proofs.flows.send_turn.Goals as goal

pub loop-place-init : goal.loop-place-init
loop-place-init c =
    turn-begins c.args.case.now c.args.asks.now c.args.flows.now c.args.sending.now c.args.lacking.now c.args.count c.requires.lacking c.requires.places c.requires.ready c.requires.prepared c.requires.sending

pub send_one-more-requires-clause-flow : goal.send_one-more-requires-clause-flow
send_one-more-requires-clause-flow c =
    let inside : c.loop-place.place < c.args.count = omega (arith, c.loop-place-test.true) in
    c.loop-place.invariant.list.within c.loop-place.place (inside, λ above. omega arith)

pub send_one-more-requires-clause-lacks : goal.send_one-more-requires-clause-lacks
send_one-more-requires-clause-lacks c = λ other.
    let inside : c.loop-place.place < c.args.count = omega (arith, c.loop-place-test.true) in
    c.loop-place.invariant.list.each c.loop-place.place other (inside, λ above. omega arith)

pub loop-place-preserved : goal.loop-place-preserved
loop-place-preserved c =
    let case = c.args.case.now in
    let asks = c.args.asks.now in
    let l = c.loop-place in
    let inside : l.place < c.args.count = omega (arith, c.loop-place-test.true) in
    let one = c.send_one-more.ensures in
    let after = c.send_one-more.new in
    let own = get_or l.lacking l.place 0 in
    subst (λ (k : ℕ). TurnSoFar case asks c.args.flows.now c.args.sending.now c.args.lacking.now after.flows after.sending (set l.lacking l.kept own) k (l.place + 1) c.args.count) (sym c.counted-kept.ensures)
    (turn-goes_on case asks c.args.flows.now c.args.sending.now c.args.lacking.now c.args.count c.requires.lacking l.flows l.sending l.lacking l.kept l.place l.invariant inside after.flows after.sending one.others
    c.send_one-more.result one.ready one.prepared one.sending one.rounds one.now one.count one.follows (λ is. one.more (search rules)) (λ is. one.enough (search rules)))

pub returns-clause-follows : goal.returns-clause-follows
returns-clause-follows c = λ sent givens follows.
    let l = c.loop-place in
    let over : c.args.count ≤ l.place = omega (arith, c.loop-place-test.false) in
    turn-ends c.args.case.now c.args.asks.now c.args.flows.now c.args.sending.now c.args.lacking.now c.args.count c.requires.lacking l.flows l.sending l.lacking l.kept l.place l.invariant over c.requires.ready.count sent givens follows

pub returns-clause-lacking : goal.returns-clause-lacking
returns-clause-lacking c =
    let l = c.loop-place in
    let over : c.args.count ≤ l.place = omega (arith, c.loop-place-test.false) in
    lacking-over l.flows _ l.lacking l.kept l.place c.args.count l.invariant.order l.invariant.inside over l.invariant.list
