use Rattle.std.proofs.Common.{◌∙◌, ap, sym, refl}
use Rattle.campaign_gate.specs.CaseRuns.{next_in}
use Rattle.campaign_gate.proofs.CaseRunLemmas.{next-is, on-ended}
use Rattle.campaign_gate.proofs.case_run.CaseRun.complete.Goals as goal

pub loop-letter-init : goal.loop-letter-init
loop-letter-init g c = (c.requires, refl)

pub make-requires : goal.make-requires
make-requires g c =
    let flow = g.F.GivenFlow in
    let run = c.loop-letter.self in
    let on = c.loop-letter.invariant.0 in
    record {
      on = on;
      next =
          next-is flow.at flow.bare_of g.met.F.GivenFlow.bare_law run.flow.flow run.flow.tally run.link on
          c.next_letter.result (c.next_letter.ensures ∙ ap next_in c.bare.ensures) ∙ c.in-Some.is;
    }

pub loop-letter-preserved : goal.loop-letter-preserved
loop-letter-preserved g c = (c.in_ok-make.ensures.on, c.in_ok-make.ensures.case ∙ c.loop-letter.invariant.1)

pub loop-letter-smaller : goal.loop-letter-smaller
loop-letter-smaller g c = c.in_ok-make.ensures.fewer

pub returns : goal.returns
returns g c =
    let flow = g.F.GivenFlow in
    let run = c.loop-letter.self in
    let none = sym (ap next_in c.bare.ensures) ∙ sym c.next_letter.ensures ∙ c.in_default.is in
    on-ended flow.at flow.bare_of g.met.F.GivenFlow.bare_law run.flow.flow run.flow.tally run.link c.loop-letter.invariant.0 none
    (flow.bare_of c.args.self.now.flow.flow).case c.loop-letter.invariant.1
