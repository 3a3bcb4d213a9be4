use Rattle.std.proofs.Common.{◌≡◌, ℕ, ◌≤◌, List, length, subst, sym, arith}
use Rattle.shared_link.specs.KeptFlows.{AreLacking}
use Rattle.shared_link.proofs.LackingLemmas.{lacking-none}
use Rattle.shared_link.proofs.flows.list_lacking.Goals as goal

pub loop-flow-init : goal.loop-flow-init
loop-flow-init c =
    let flows = c.args.flows.now in
    let none = c.in_ok-clear_for.ensures.none in (
      omega arith,
      subst (λ (xs : List ℕ). length xs ≤ 0) (sym none) (omega arith),
      c.in_ok-clear_for.ensures.places,
      subst (λ (xs : List ℕ). AreLacking flows 0 xs 0 0 (length xs)) (sym none) (lacking-none flows),
    )

pub returns : goal.returns
returns c =
    let l = c.loop-flow in
    let all : l.flow ≡ length c.args.flows.now = omega (arith, c.loop-flow-test.false, l.invariant.0) in
    subst (λ (n : ℕ). AreLacking c.args.flows.now n l.lacking.items 0 0 (length l.lacking.items)) all l.invariant.3
