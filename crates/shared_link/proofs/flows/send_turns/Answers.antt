use Rattle.std.proofs.Common.{◌≡◌, ℕ, ◌-◌, suc, false, length, subst, ap, sym, ◌∙◌, arith}
use Rattle.ccp_base.specs.Limits.{most_flight}
use Rattle.shared_link.specs.SharedRounds.{allowed, some_lacks, sending_turn, turns_of}
use Rattle.shared_link.specs.Kept.{Follows}
use Rattle.shared_link.specs.KeptFlows.{AreLacking}
use Rattle.shared_link.proofs.SendingLemmas.{turns-over, turns-first}
use Rattle.shared_link.proofs.LackingLemmas.{none_listed}
use Rattle.shared_link.proofs.flows.send_turns.Goals as goal

pub returns-then-count-eq0-clause-follows : goal.returns-then-count-eq0-clause-follows
returns-then-count-eq0-clause-follows c = λ sent givens follows.
    let case = c.args.case.now in
    let l = c.loop-left in
    let now = l.sending.now in
    let asks = c.args.asks.now in
    let may = allowed case now asks in
    let turned = l.invariant.5 sent givens follows in
    let empty : l.count ≡ 0 = omega (arith, c.if-count-eq0.true) in
    let listed = subst (λ (n : ℕ). AreLacking l.flows (length l.flows) l.lacking 0 0 n) empty l.invariant.7 in
    let none : some_lacks may givens (length case.flows) turned.so_far ≡ false =
    none_listed case l.sending.rounds now asks l.flows l.invariant.0 l.invariant.1 turned.so_far givens turned.follows.traffic l.lacking listed (length case.flows) (omega (arith, l.invariant.0.count)) in
    subst (λ s. Follows case l.flows l.sending s givens)
    (sym (turns-over case now givens may l.left turned.so_far none)
    ∙ turned.rest
    ∙ ap (λ n. turns_of case n (allowed case n asks) givens most_flight sent) l.invariant.4)
    turned.follows

pub loop-left-preserved : goal.loop-left-preserved
loop-left-preserved c =
    let case = c.args.case.now in
    let left = c.loop-left.left in
    let now = c.loop-left.sending.now in
    let asks = c.args.asks.now in
    let may = allowed case now asks in
    let one : suc (left - 1) ≡ left = omega (arith, c.loop-left-test.true) in (
      c.send_turn-count.ensures.ready,
      c.send_turn-count.ensures.prepared,
      c.send_turn-count.ensures.sending,
      c.send_turn-count.ensures.rounds ∙ c.loop-left.invariant.3,
      c.send_turn-count.ensures.now ∙ c.loop-left.invariant.4,
      λ sent givens follows.
          (let turned = c.loop-left.invariant.5 sent givens follows in
          let more = sending_turn case now may givens (length case.flows) turned.so_far in
          record {
            so_far = more;
            follows = c.send_turn-count.ensures.follows turned.so_far givens turned.follows;
            rest =
                ap (λ n. turns_of case n (allowed case n asks) givens (left - 1) more) c.send_turn-count.ensures.now
                ∙ turns-first case now givens may (left - 1) turned.so_far
                ∙ ap (λ k. turns_of case now may givens k turned.so_far) one
                ∙ turned.rest
                ∙ ap (λ n. turns_of case n (allowed case n asks) givens most_flight sent) (sym c.send_turn-count.ensures.now);
          }),
      c.send_turn-count.ensures.places,
      c.send_turn-count.ensures.lacking,
    )

pub returns-clause-follows : goal.returns-clause-follows
returns-clause-follows c = λ sent givens follows.
    let case = c.args.case.now in
    let now = c.loop-left.sending.now in
    let asks = c.args.asks.now in
    let may = allowed case now asks in
    let turned = c.loop-left.invariant.5 sent givens follows in
    let none : 0 ≡ c.loop-left.left = omega (arith, c.loop-left-test.false) in
    subst (λ s. Follows case c.loop-left.flows c.loop-left.sending s givens)
    (ap (λ k. turns_of case now may givens k turned.so_far) none ∙ turned.rest ∙ ap (λ n. turns_of case n (allowed case n asks) givens most_flight sent) c.loop-left.invariant.4) turned.follows
