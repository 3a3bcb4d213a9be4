-- The rows of flows over a shared link and their accounts show the same histories.
use Rattle.std.proofs.Common.{List, [], ◌∷◌, map}
use Rattle.reg_compiler.specs.Sources.{Sources, sources_of}
use Rattle.flow_core.specs.Cores.{CoreState}
use Rattle.flow_core.specs.LiveText.{flow_from}
use Rattle.campaign_core.specs.FlowRow.{world_of_core, flow_peak, flow_row}
use Rattle.mode_laws.proofs.RowLaw.{row_told}
use Rattle.ccp_run.specs.SharedLaws.{core_account, TellEach, TellsSharedRows}
use Rattle.ccp_run.specs.SharedSeries.{source_flows}

each_told : (sources : Sources) (cores : List CoreState)
    → TellEach (map (core_account sources) cores) (map (flow_row (flow_from sources)) cores)
each_told sources [] = tt
each_told sources (core ∷ rest) =
    let read = flow_from sources in (
      row_told (read core.case) (world_of_core read core) (flow_peak read core),
      each_told sources rest,
    )

pub shared_rows_told : TellsSharedRows
shared_rows_told programs cases link rounds = each_told (sources_of programs) (source_flows programs cases link rounds)
