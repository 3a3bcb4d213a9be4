-- A row counts all reports that its flow's epochs made: after the campaign word none waits, and the answered tickets have
-- each one, in order.
use Rattle.std.specs.Prelude.{◌≡◌, ℕ, length}
use Rattle.portus_core.specs.Programs.{Form}
use Rattle.link_model.specs.declared.link_case.LinkCase.{LinkCase}
use Rattle.flow_core.specs.declared.case.Case.{Case}
use Rattle.flow_core.specs.Readings.{Flow, over_codes, over_sources}
use Rattle.flow_core.specs.Words.{world}
use Rattle.campaign_core.specs.CampaignWord.{plan_over}
use Rattle.campaign_core.specs.CampaignRow.{row_read}
use Rattle.campaign_core.specs.ReportsMade.{reports_made, reports_answered}

-- after its campaign word a flow's answered tickets have all reports that it made, and its row has their number
pub record CountsReports {X : Type 0} (flow : Flow X) (link : LinkCase) (lag : ℕ) : Type 0 where
  pub answered : reports_answered (world flow link (plan_over flow link lag)).answered
      ≡ reports_made flow (world flow link (plan_over flow link lag))
  pub counted :
      (row_read flow link lag).reports ≡ length (reports_made flow (world flow link (plan_over flow link lag)))

-- over the codes of a case, and over any two programs
abbrev pub RowCountsReports : Case → Type 0
RowCountsReports case =
    CountsReports (over_codes case) case.link case.lag
    × ((ss ca : Form) → CountsReports (over_sources case ss ca) case.link case.lag)
