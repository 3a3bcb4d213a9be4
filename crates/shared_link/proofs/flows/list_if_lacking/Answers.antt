use Rattle.std.proofs.Common.{ℕ, ◌+◌, ◌≤◌, ◌<◌, List, [], ◌∷◌, ◌++◌, length, ap, subst, sym, arith, length-append}
use Rattle.shared_link.specs.declared.flow_traffic.FlowTraffic.{FlowTraffic}
use Rattle.shared_link.specs.KeptFlows.{MaySend, HasEnough, AreLacking}
use Rattle.shared_link.proofs.FlowsLemmas.{same_there}
use Rattle.shared_link.proofs.LackingLemmas.{lacking-pass, lacking-push}
use Rattle.shared_link.proofs.flows.list_if_lacking.Goals as goal

pub returns-then-traffic-clause-lacking : goal.returns-then-traffic-clause-lacking
returns-then-traffic-clause-lacking c =
    let flows = c.args.flows.now in
    let f = c.args.flow in
    let t = c.index-flows-flow.result in
    let enough : t.allowance ≤ t.in_flight = omega (arith, c.if-traffic.true) in
    lacking-pass flows f c.args.lacking.now.items (length c.args.lacking.now.items) c.requires.lacking
    (λ other. subst (λ (x : FlowTraffic). HasEnough x) (sym (same_there flows f t other c.requires.flow c.index-flows-flow.is)) enough)

pub returns-clause-lacking : goal.returns-clause-lacking
returns-clause-lacking c =
    let flows = c.args.flows.now in
    let f = c.args.flow in
    let t = c.index-flows-flow.result in
    let items = c.args.lacking.now.items in
    let may : t.in_flight < t.allowance = omega (arith, c.if-traffic.false) in
    subst (λ (xs : List ℕ). AreLacking flows (f + 1) xs 0 0 (length xs)) (sym c.push_reserved.ensures.items)
    (subst (λ (n : ℕ). AreLacking flows (f + 1) (items ++ f ∷ []) 0 0 n) (sym (length-append items (f ∷ [])))
    (lacking-push flows f items c.requires.lacking (λ other. subst (λ (x : FlowTraffic). MaySend x) (sym (same_there flows f t other c.requires.flow c.index-flows-flow.is)) may)))

pub returns-clause-count : goal.returns-clause-count
returns-clause-count c = omega (arith, ap length c.push_reserved.ensures.items, length-append c.args.lacking.now.items (c.args.flow ∷ []))
