-- The row of a case is that of its programs: for all programs that the case's codes simulate, it is the row read over
-- these sources.
use Rattle.std.specs.Prelude.{◌≡◌, List}
use Rattle.ccp_base.specs.declared.place.Place.{Place}
use Rattle.portus_core.specs.Programs.{Form}
use Rattle.reg_compiler.specs.Simulation.{Simulates}
use Rattle.flow_core.specs.declared.case.Case.{Case}
use Rattle.flow_core.specs.Readings.{over_sources}
use Rattle.campaign_core.specs.CampaignRow.{row_read, case_row}

abbrev pub RowHoldsForSources : Case → Type 0
RowHoldsForSources case =
    (ss ca : Form) (ss_places ca_places : List Place)
    → Simulates ss case.ss.code.code ss_places
    → Simulates ca case.ca.code.code ca_places
    → case_row case ≡ row_read (over_sources case ss ca) case.link case.lag
