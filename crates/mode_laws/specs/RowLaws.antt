-- What the row of a flow in a campaign's table and the lines of its account say of one history.
use Rattle.std.specs.Prelude.{◌≡◌, ◌-◌, ℕ, length}
use Rattle.ccp_base.specs.declared.place.Place.{Place}
use Rattle.link_model.specs.declared.link_case.LinkCase.{LinkCase}
use Rattle.flow_core.specs.LiveText.{Account, account_of, report_count}
use Rattle.flow_core.specs.Readings.{Flow}
use Rattle.flow_core.specs.Words.{world}
use Rattle.campaign_core.specs.declared.row.Row.{Row}
use Rattle.campaign_core.specs.CampaignRow.{row_read}
use Rattle.campaign_core.specs.CampaignWord.{plan_over}

-- a row of a campaign's table has the numbers that the lines of an account show: its tickets with reports, its
-- faults, its epochs, and its last line
pub record TellsRow (account : Account) (row : Row) : Type 0 where
  pub acks : row.acks ≡ account.end.acks
  pub reports : row.reports ≡ report_count account.tickets
  pub held : row.held ≡ account.held
  pub faults : row.faults ≡ length account.faults
  pub epochs : row.epochs ≡ length account.epochs
  pub cwnd : row.cwnd ≡ account.end.cwnd
  pub tail : row.tail ≡ account.end.acks - account.end.first

-- the row of a flow and the account of its timeline show the same history
abbrev pub TellsRows : Type 0
TellsRows =
    (flow : Flow Place) (link : LinkCase) (lag : ℕ)
    → TellsRow (account_of flow (world flow link (plan_over flow link lag))) (row_read flow link lag)
