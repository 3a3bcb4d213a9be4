use Rattle.std.proofs.Common.{List, map, ap, ◌∙◌}
use Rattle.flow_core.specs.Readings.{over_codes}
use Rattle.campaign_core.specs.declared.tallied_flow.TalliedFlow.{TalliedFlow}
use Rattle.campaign_core.specs.declared.given_flow.BareFlow.{BareFlow}
use Rattle.shared_run.specs.SharedHistory.{flows_at_end}
use Rattle.shared_run.proofs.CourseLemmas.{ends}
use Rattle.shared_run.proofs.LiftedRunLemmas.{lifted}
use Rattle.shared_run.proofs.RunLemmas.{run-whole}
use Rattle.shared_run.proofs.run.shared_rows.Goals as goal

pub returns-clause-rows : goal.returns-clause-rows
returns-clause-rows g c =
    let scene = c.args.scene in
    let cores = flows_at_end scene.link over_codes scene.scene.cases scene.rounds in
    c.in_ok-rows.ensures cores (run-whole scene.link scene.scene.cases scene.rounds)
    (ap (λ (items : List (TalliedFlow BareFlow)). map (λ (shared : TalliedFlow BareFlow). (shared.flow, shared.tally)) items) c.as_slice.ensures.value ∙ c.in_ok-run.ensures.flows)

pub returns-clause-ends : goal.returns-clause-ends
returns-clause-ends g c = ends c.args.scene.link c.args.scene.scene.cases c.args.scene.rounds

pub returns-clause-lifted : goal.returns-clause-lifted
returns-clause-lifted g c = lifted c.args.scene.link c.args.scene.scene.cases c.args.scene.rounds

pub returns-in_err-run-clause-ends : goal.returns-in_err-run-clause-ends
returns-in_err-run-clause-ends g c = ends c.args.scene.link c.args.scene.scene.cases c.args.scene.rounds

pub returns-in_err-run-clause-lifted : goal.returns-in_err-run-clause-lifted
returns-in_err-run-clause-lifted g c = lifted c.args.scene.link c.args.scene.scene.cases c.args.scene.rounds

pub returns-in_err-rows-clause-ends : goal.returns-in_err-rows-clause-ends
returns-in_err-rows-clause-ends g c = ends c.args.scene.link c.args.scene.scene.cases c.args.scene.rounds

pub returns-in_err-rows-clause-lifted : goal.returns-in_err-rows-clause-lifted
returns-in_err-rows-clause-lifted g c = lifted c.args.scene.link c.args.scene.scene.cases c.args.scene.rounds
