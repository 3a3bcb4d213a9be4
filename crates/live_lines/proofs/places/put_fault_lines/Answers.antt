use Rattle.std.proofs.Common.{rules, ◌≡◌, ◌++◌, ◌∷◌, List, map, ap, sym, ◌∙◌, append_assoc}
use Rattle.ccp_base.specs.declared.exchange.Notice.{Notice}
use Rattle.ccp_base.specs.declared.place.Place.{Place}
use Rattle.flow_core.specs.World.{Failure}
use Rattle.flow_core.specs.LiveText.{failure_line, fault_lines}
use Rattle.live_lines.specs.FaultPlaces.{placed}
use Rattle.live_lines.proofs.places.put_fault_lines.Goals as goal

pub loop-notice-preserved : goal.loop-notice-preserved
loop-notice-preserved g c =
    let failure : Notice → Failure Place = placed (g.P.Places.placing c.args.places.now) in
    let text = c.loop-notice.text in
    let later = fault_lines (map failure c.in-Some.rest.now) in
    let put : c.put_fault.new.text ≡ text ++ failure_line (failure c.in-Some.notice.now) = search rules in
    let split : c.loop-notice.left.now ≡ c.in-Some.notice.now ∷ c.in-Some.rest.now = search rules in
    ap (λ t. t ++ later) put
    ∙ append_assoc text (failure_line (failure c.in-Some.notice.now)) later
    ∙ ap (λ (left : List Notice). text ++ fault_lines (map failure left)) (sym split)
    ∙ c.loop-notice.invariant
