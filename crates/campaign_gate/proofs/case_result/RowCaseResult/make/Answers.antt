use Rattle.std.proofs.Common.{◌∙◌}
use Rattle.campaign_gate.specs.CaseRuns.{core_of_case}
use Rattle.campaign_gate.proofs.CaseRunLemmas.{row-of-case}
use Rattle.campaign_gate.proofs.case_result.RowCaseResult.make.Goals as goal

pub returns : goal.returns
returns c = c.row-row.ensures (core_of_case c.args.case) c.in_ok-flow.ensures ∙ row-of-case c.args.case
