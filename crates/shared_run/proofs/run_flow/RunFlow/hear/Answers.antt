use Rattle.std.proofs.Common.{◌≡◌, ◌+◌, ◌<◌, Some, List, ℕ, slice_get, arith, sym, ap, ◌∙◌, subst}
use Rattle.ccp_base.specs.declared.ack.Ack.{Ack}
use Rattle.shared_run.specs.Courses.{flows_after, acks_in}
use Rattle.shared_run.specs.CourseLaws.{acks-same}
use Rattle.shared_run.specs.RoundFlows.{run_flow_in, MayHear}
use Rattle.shared_run.proofs.CourseLemmas.{rested}
use Rattle.shared_run.proofs.KeptLemmas.{may-hear, kept-next}
use Rattle.shared_run.proofs.run_flow.RunFlow.hear.Goals as goal

pub run_part-requires : goal.run_part-requires
run_part-requires g c =
    let at = g.F.GivenFlow.at in
    let run = c.args.self.now in
    let acks = c.args.acks.now in
    let link = g.C.CaseCourse.link in
    let cases = g.C.CaseCourse.cases in
    let kept : run_flow_in at link cases acks.since acks.number ≡ Some (run.flow.flow, run.flow.tally) =
    sym (λ i. run_flow_in at link cases (c.requires.since i) (c.requires.number i)) ∙ run.stands c.requires.whole in
    let are : slice_get (acks_in link cases acks.round) acks.number ≡ Some acks.acks =
    ap (λ (lists : List (List Ack)). slice_get lists acks.number) (sym (acks-same link cases acks.round)) ∙ acks.are in
    let few : acks.round < 10000 = acks.few in
    subst (λ (list : List Ack). MayHear at list run.flow.flow run.flow.tally) (sym c.as_slice.ensures)
    (may-hear at link cases acks.since acks.round acks.number acks.acks run.flow.flow run.flow.tally are
    (rested link cases acks.number acks.since acks.round acks.before acks.rests)
    (λ core there. run.roomy (acks.round + 1) (omega (arith, few)) core
    (ap (λ (n : ℕ). slice_get (flows_after link cases (acks.round + 1)) n) c.requires.number ∙ there)) kept)

pub invariant_of-self : goal.invariant_of-self
invariant_of-self g c =
    let at = g.F.GivenFlow.at in
    let run = c.args.self.now in
    let new = c.run_part.new.flow in
    let acks = c.args.acks.now in
    let link = g.C.CaseCourse.link in
    let cases = g.C.CaseCourse.cases in
    let kept : run_flow_in at link cases acks.since acks.number ≡ Some (run.flow.flow, run.flow.tally) =
    sym (λ i. run_flow_in at link cases (c.requires.since i) (c.requires.number i)) ∙ run.stands c.requires.whole in
    let are : slice_get (acks_in link cases acks.round) acks.number ≡ Some acks.acks =
    ap (λ (lists : List (List Ack)). slice_get lists acks.number) (sym (acks-same link cases acks.round)) ∙ acks.are in
    record {
      roomy = run.roomy;
      stands =
          (λ well.
          ap (λ (n : ℕ). run_flow_in at link cases (acks.round + 1) n) c.requires.number
          ∙ kept-next at link cases acks.since acks.round acks.number acks.acks run.flow.flow run.flow.tally are
          (rested link cases acks.number acks.since acks.round acks.before acks.rests) kept
          c.as_slice.result.now new.flow new.tally c.as_slice.ensures c.in-Ok.ensures.part);
    }
