use Rattle.campaign_core.proofs.PlanLemmas.{plan-is-legal, plan-is-complete}
use Rattle.campaign_gate.proofs.RowReportsLemmas.{row-counts-reports}
use Rattle.campaign_gate.proofs.laws.row_law.Goals as goal

pub returns-clause-legal : goal.returns-clause-legal
returns-clause-legal c = plan-is-legal c.args.case.now

pub returns-clause-complete : goal.returns-clause-complete
returns-clause-complete c = plan-is-complete c.args.case.now

pub returns-clause-reports : goal.returns-clause-reports
returns-clause-reports c = row-counts-reports c.args.case.now
