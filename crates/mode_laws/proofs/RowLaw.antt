-- The row of a flow and its account show the same history.
use Rattle.std.proofs.Common.{◌∙◌, ℕ, [], ◌∷◌, ◌++◌, refl, sym}
use Rattle.std.proofs.lemmas.List.{length-append, length-map}
use Rattle.ccp_base.specs.declared.place.Place.{Place}
use Rattle.flow_core.specs.Books.{epoch_line}
use Rattle.flow_core.specs.LiveText.{account_of}
use Rattle.flow_core.specs.Readings.{Flow}
use Rattle.flow_core.specs.Words.{world}
use Rattle.flow_core.specs.World.{World}
use Rattle.campaign_core.specs.CampaignWord.{plan_over}
use Rattle.campaign_core.specs.CampaignRow.{peak_of, row_over}
use Rattle.mode_laws.specs.RowLaws.{TellsRow, TellsRows}

-- a state's row has the numbers of its account
pub row_told : (flow : Flow Place) (w : World Place) (peak : ℕ) → TellsRow (account_of flow w) (row_over flow w peak)
row_told flow w peak = record {
  acks = refl;
  reports = refl;
  held = refl;
  faults = refl;
  epochs = sym (length-map (w.past ++ w.present ∷ []) epoch_line ∙ length-append w.past (w.present ∷ []));
  cwnd = refl;
  tail = refl;
}

pub rows_told : TellsRows
rows_told flow link lag =
    let word = plan_over flow link lag in row_told flow (world flow link word) (peak_of flow link word)
