-- A row counts all reports that its flow's epochs made: at the run's end none waits, and the answered tickets have each
-- one, in order.
use Rattle.std.specs.Prelude.{◌≡◌, ℕ, Some, List, length, slice_get}
use Rattle.flow_core.specs.declared.case.Case.{Case}
use Rattle.flow_core.specs.Cores.{CoreState}
use Rattle.campaign_core.specs.ReportsMade.{reports_made, reports_answered}
use Rattle.shared_link.specs.declared.shared_case.SharedCase.{SharedCase}
use Rattle.campaign_core.specs.FlowRow.{CaseReading, world_of_core, flow_row}
use Rattle.shared_run.specs.SharedHistory.{flows_at_end}

-- the answered tickets of a flow have all reports that it made, and its row has their number
pub record CountsReports {X : Type 0} (read : CaseReading X) (core : CoreState) : Type 0 where
  pub answered :
      reports_answered (world_of_core read core).answered ≡ reports_made (read core.case) (world_of_core read core)
  pub counted : (flow_row read core).reports ≡ length (reports_made (read core.case) (world_of_core read core))

-- that holds of every flow at the end of every run
abbrev pub RowsCountReports : {X : Type 0} → CaseReading X → Type 0
RowsCountReports read =
    (link : SharedCase) (cases : List Case) (rounds number : ℕ) (core : CoreState)
    → slice_get (flows_at_end link read cases rounds) number ≡ Some core → CountsReports read core
