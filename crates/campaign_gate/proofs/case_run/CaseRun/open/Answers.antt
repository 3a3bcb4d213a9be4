use Rattle.std.proofs.Common.{ap, ◌∙◌}
use Rattle.flow_core.specs.declared.case.Case.{Case}
use Rattle.flow_core.specs.Bares.{BareState}
use Rattle.campaign_gate.proofs.CaseRunLemmas.{on-opened}
use Rattle.campaign_gate.proofs.case_run.CaseRun.open.Goals as goal

pub returns-in-Ok-clause-on : goal.returns-in-Ok-clause-on
returns-in-Ok-clause-on g c =
    let flow = g.F.GivenFlow in
    let run = c.in_ok-flow.flow in
    on-opened flow.at flow.bare_of g.met.F.GivenFlow.bare_law run.flow run.tally c.in-Ok.link c.args.case c.in_ok-flow.ensures
    (c.in-Ok.ensures.case ∙ ap (λ (case : Case). case.link) (c.case.ensures ∙ ap (λ (b : BareState). b.case) c.bare.ensures))
    c.in-Ok.ensures.stands
