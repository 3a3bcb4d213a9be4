use Rattle.campaign_core.proofs.PlanLemmas.{plan-is-legal, plan-is-complete}
use Rattle.campaign_gate.proofs.LiftedRowLemmas.{lifted}
use Rattle.campaign_gate.proofs.calls.run_case.Goals as goal

pub returns-clause-legal : goal.returns-clause-legal
returns-clause-legal c = plan-is-legal c.args.case

pub returns-clause-complete : goal.returns-clause-complete
returns-clause-complete c = plan-is-complete c.args.case

pub returns-clause-lifted : goal.returns-clause-lifted
returns-clause-lifted c = lifted c.args.case
