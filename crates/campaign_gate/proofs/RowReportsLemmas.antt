-- After the campaign word the answered tickets have all reports that the flow's epochs made.
use Rattle.std.specs.Prelude.{◌≡◌, ℕ, nat_lt, List, ◌++◌, length, refl}
use Rattle.std.proofs.Common.{ap, sym, ◌∙◌, append-nil}
use Rattle.ccp_base.specs.declared.exchange.Report.{Report}
use Rattle.link_model.specs.declared.link_case.LinkCase.{LinkCase}
use Rattle.flow_core.specs.declared.case.Case.{Case}
use Rattle.flow_core.specs.Readings.{Flow, over_codes, over_sources}
use Rattle.flow_core.specs.World.{opening}
use Rattle.flow_core.specs.Words.{from_link, world}
use Rattle.campaign_core.specs.CampaignWord.{plan_over}
use Rattle.campaign_core.specs.ReportsMade.{reports_made, reports_answered}
use Rattle.campaign_core.proofs.PlanLemmas.{plan_over-legal, plan_over-complete}
use Rattle.campaign_core.proofs.ReportsMadeLemmas.{word-made, none-left, count-length}
use Rattle.campaign_gate.specs.RowReports.{CountsReports, RowCountsReports}

pub counts-reports : {X : Type 0} (flow : Flow X) (link : LinkCase) (lag : ℕ) → CountsReports flow link lag
counts-reports flow link lag =
    let word = plan_over flow link lag in
    let w = world flow link word in
    let kept = word-made flow (from_link flow link) word (opening flow) (plan_over-legal flow lag link) refl in
    let none = none-left flow (nat_lt (length w.acks) flow.acks) w.out w.waiting w.untold (plan_over-complete flow lag link) in
    let answered : reports_answered w.answered ≡ reports_made flow w =
    sym (append-nil (reports_answered w.answered))
    ∙ ap (λ (xs : List Report). reports_answered w.answered ++ xs) (sym none)
    ∙ kept in
    record {
      answered = answered;
      counted = count-length flow w.answered ∙ ap (λ (xs : List Report). length xs) answered;
    }

pub row-counts-reports : (case : Case) → RowCountsReports case
row-counts-reports case =
    (counts-reports (over_codes case) case.link case.lag, λ ss ca. counts-reports (over_sources case ss ca) case.link case.lag)
