-- A flow of programs does the same as a flow of codes that simulate them: its letters, its windows and its row.
use Rattle.std.specs.Prelude.{◌≡◌, List}
use Rattle.ccp_base.specs.declared.ack.Ack.{Ack}
use Rattle.ccp_base.specs.declared.place.Place.{Place}
use Rattle.portus_core.specs.Programs.{Form}
use Rattle.reg_compiler.specs.Simulation.{Simulates}
use Rattle.flow_core.specs.declared.case.Case.{Case}
use Rattle.flow_core.specs.declared.letter.Letter.{Letter}
use Rattle.flow_core.specs.Readings.{over_codes, over_sources}
use Rattle.flow_core.specs.Cores.{CoreState}
use Rattle.campaign_core.specs.CampaignRow.{window_of}
use Rattle.campaign_core.specs.FlowRow.{CaseReading, world_of_core, flow_row}
use Rattle.shared_run.specs.RoundLetters.{round_part, closed_flow}

-- two readings of a case are alike: whatever acknowledgements its flow has, it has one window, does one part of a
-- round, closes with one word and has one row in both
pub record ReadAlike {X Y : Type 0} (read : CaseReading X) (other : CaseReading Y) (core : CoreState) : Type 0 where
  pub window :
      window_of (read core.case) (world_of_core read core) ≡ window_of (other core.case) (world_of_core other core)
  pub part : (acks : List Ack) → round_part read acks core ≡ round_part other acks core
  pub closed : closed_flow read core ≡ closed_flow other core
  pub row : flow_row read core ≡ flow_row other core

-- if a case's codes simulate the two programs that this reading has for it, both readings are alike
abbrev pub FlowHoldsForSources : Case → Type 0
FlowHoldsForSources case =
    (sources : CaseReading Place) (ss ca : Form) (ss_places ca_places : List Place)
    → sources case ≡ over_sources case ss ca
    → Simulates ss case.ss.code.code ss_places
    → Simulates ca case.ca.code.code ca_places
    → (acks : List Ack) (word : List Letter)
    → ReadAlike over_codes sources (record { case = case; acks = acks; word = word })
