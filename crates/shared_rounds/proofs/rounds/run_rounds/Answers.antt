use Rattle.std.proofs.Common.{◌≡◌, ◌+◌, ◌<◌, true, false, List, arith, ap, sym, ◌∙◌}
use Rattle.shared_link.specs.declared.round.Ask.{Ask}
use Rattle.shared_rounds.specs.Rounds.{none_left}
use Rattle.shared_rounds.proofs.RoundsLemmas.{goes-none, goes-more, goes-fewer}
use Rattle.shared_rounds.proofs.rounds.run_rounds.Goals as goal

pub returns-then-none_left-clause-end : goal.returns-then-none_left-clause-end
returns-then-none_left-clause-end g c =
    let l = c.loop-done in
    let asks = g.C.Course.asks in
    let less : l.done < c.args.most = omega (arith, c.loop-done-test.true) in
    let asked : c.as_slice.result.now ≡ asks (l.done + 1) = c.as_slice.ensures.value ∙ c.in_ok-run_round.ensures.asks in
    let none : none_left (asks (l.done + 1)) ≡ true =
    sym (ap (λ (list : List Ask). none_left list) asked) ∙ sym c.none_left.ensures ∙ c.if-none_left.true in
    record {
      stands = c.in_ok-run_round.ensures.stands;
      few = omega (arith, less);
      first = l.invariant.2;
      last = λ fewer. (omega arith, none);
    }

pub loop-done-preserved : goal.loop-done-preserved
loop-done-preserved g c =
    let l = c.loop-done in
    let asks = g.C.Course.asks in
    let less : l.done < c.args.most = omega (arith, c.loop-done-test.true) in
    let asked : c.as_slice.result.now ≡ asks (l.done + 1) = c.as_slice.ensures.value ∙ c.in_ok-run_round.ensures.asks in
    let lacks : none_left (asks (l.done + 1)) ≡ false =
    sym (ap (λ (list : List Ask). none_left list) asked) ∙ sym c.none_left.ensures ∙ c.if-none_left.false in
    let same = c.run_round.auto.handles in (
      c.in_ok-run_round.ensures.stands,
      c.in_ok-run_round.ensures.asks,
      goes-more asks l.done l.invariant.2 lacks,
      omega (arith, less),
      omega (arith, same, l.invariant.4),
      c.in_ok-run_round.ensures.count,
      c.in_ok-run_round.ensures.known,
    )

pub loop-done-init : goal.loop-done-init
loop-done-init g c = (
  c.requires.stands,
  c.in_ok-collect_asks.ensures,
  goes-none g.C.Course.asks,
  omega arith,
  c.requires.workers,
  c.requires.count,
  c.requires.known,
)

pub returns-clause-end : goal.returns-clause-end
returns-clause-end g c =
    let l = c.loop-done in
    let most = l.invariant.3 in
    let over = c.loop-done-test.false in
    record {
      stands = l.invariant.0;
      few = most;
      first = goes-fewer g.C.Course.asks l.done l.invariant.2;
      last = λ less. absurd (omega (arith, over, less));
    }

pub collect_asks-requires-clause-known : goal.collect_asks-requires-clause-known
collect_asks-requires-clause-known g c = c.requires.known

pub collect_asks-requires-clause-flows : goal.collect_asks-requires-clause-flows
collect_asks-requires-clause-flows g c = c.requires.count ∙ sym (g.C.Course.asks_law 0)

pub collect_asks-requires-clause-few : goal.collect_asks-requires-clause-few
collect_asks-requires-clause-few g c = omega (arith, c.requires.count, c.requires.few)

pub run_round-requires-clause-workers : goal.run_round-requires-clause-workers
run_round-requires-clause-workers g c = c.loop-done.invariant.4

pub run_round-requires-clause-count : goal.run_round-requires-clause-count
run_round-requires-clause-count g c = c.loop-done.invariant.5

pub run_round-requires-clause-known : goal.run_round-requires-clause-known
run_round-requires-clause-known g c = c.loop-done.invariant.6

pub run_round-requires-clause-few : goal.run_round-requires-clause-few
run_round-requires-clause-few g c = c.requires.few

pub run_round-requires-clause-links : goal.run_round-requires-clause-links
run_round-requires-clause-links g c = c.requires.links

pub run_round-requires-clause-stands : goal.run_round-requires-clause-stands
run_round-requires-clause-stands g c = c.loop-done.invariant.0

pub run_round-requires-clause-asks : goal.run_round-requires-clause-asks
run_round-requires-clause-asks g c = c.loop-done.invariant.1

pub run_round-requires-clause-rounds : goal.run_round-requires-clause-rounds
run_round-requires-clause-rounds g c = omega (arith, c.loop-done-test.true, c.requires.rounds)

pub returns-then-none_left-clause-count : goal.returns-then-none_left-clause-count
returns-then-none_left-clause-count g c = c.in_ok-run_round.ensures.count

pub returns-then-none_left-clause-known : goal.returns-then-none_left-clause-known
returns-then-none_left-clause-known g c = c.in_ok-run_round.ensures.known

pub returns-clause-count : goal.returns-clause-count
returns-clause-count g c = c.loop-done.invariant.5

pub returns-clause-known : goal.returns-clause-known
returns-clause-known g c = c.loop-done.invariant.6
