use Rattle.std.proofs.Common.{◌≡◌, ◌+◌, List, ◌∷◌, length, arith, rules, ap, sym, ◌∙◌}
use Rattle.std.specs.Vec.Iter.{into_iter_items}
use Rattle.flow_core.specs.declared.case.Case.{Case}
use Rattle.shared_rounds.proofs.RoundsLemmas.{dropped_on}
use Rattle.shared_run.proofs.RoomyLemmas.{flows-roomy}
use Rattle.shared_run.proofs.KeptLemmas.{kept-opened}
use Rattle.shared_run.proofs.flows.open_flows.Goals as goal

pub begin-requires-clause-roomy : goal.begin-requires-clause-roomy
begin-requires-clause-roomy g c =
    λ rounds few core at. flows-roomy g.C.CaseCourse.link g.C.CaseCourse.cases c.requires.within rounds few c.loop-case.number core at

pub begin-requires-clause-stands : goal.begin-requires-clause-stands
begin-requires-clause-stands g c =
    let l = c.loop-case in
    let flow = c.in_ok-flow.flow in
    let rest = into_iter_items c.next.new.self in
    let is : into_iter_items l.case-iterator ≡ c.in-Some.case ∷ rest = c.in-Some.ensures.steps.0 in
    kept-opened g.F.GivenFlow.at g.C.CaseCourse.link g.C.CaseCourse.cases l.number c.in-Some.case rest flow.flow flow.tally (sym is ∙ l.invariant.0) c.in_ok-flow.ensures

pub loop-case-preserved : goal.loop-case-preserved
loop-case-preserved g c =
    let l = c.loop-case in
    let rest = into_iter_items c.next.new.self in
    let is : into_iter_items l.case-iterator ≡ c.in-Some.case ∷ rest = c.in-Some.ensures.steps.0 in
    let shorter = ap (λ (xs : List Case). length xs) is in
    let longer : length c.push.new.self.items ≡ length l.flows.items + 1 = search rules in (
      dropped_on g.C.CaseCourse.cases l.number c.in-Some.case rest (sym is ∙ l.invariant.0),
      omega (arith, shorter, l.invariant.1),
      omega (arith, longer, l.invariant.2),
      omega (arith, shorter, c.in-Some.ensures.steps.1, l.invariant.3),
    )
