-- A run of programs is the run of the codes that simulate them.
use Rattle.std.specs.Prelude.{◌≡◌, ℕ, Some, List, slice_get}
use Rattle.ccp_base.specs.declared.place.Place.{Place}
use Rattle.portus_core.specs.Programs.{Form}
use Rattle.reg_compiler.specs.Simulation.{Simulates}
use Rattle.flow_core.specs.declared.case.Case.{Case}
use Rattle.flow_core.specs.Readings.{over_codes, over_sources}
use Rattle.shared_link.specs.declared.shared_case.SharedCase.{SharedCase}
use Rattle.campaign_core.specs.FlowRow.{CaseReading}
use Rattle.shared_run.specs.SharedHistory.{whole_run, flows_at_end, shared_rows}

-- a case's codes simulate the two programs that a reading has for it
pub record AreSimulated (sources : CaseReading Place) (case : Case) : Type 0 where
  pub ss : Form
  pub ca : Form
  pub ss_places : List Place
  pub ca_places : List Place
  pub read : sources case ≡ over_sources case ss ca
  pub ss_simulates : Simulates ss case.ss.code.code ss_places
  pub ca_simulates : Simulates ca case.ca.code.code ca_places

-- both readings of the cases have one run, one end of it, and the same rows
pub record HaveOneRun (sources : CaseReading Place) (link : SharedCase) (cases : List Case) (rounds : ℕ) : Type 0 where
  pub run : whole_run link over_codes cases rounds ≡ whole_run link sources cases rounds
  pub flows : flows_at_end link over_codes cases rounds ≡ flows_at_end link sources cases rounds
  pub rows : shared_rows link over_codes cases rounds ≡ shared_rows link sources cases rounds

abbrev pub RunHoldsForSources : SharedCase → List Case → ℕ → Type 0
RunHoldsForSources link cases rounds =
    (sources : CaseReading Place) → ((k : ℕ) (case : Case) → slice_get cases k ≡ Some case → AreSimulated sources case)
    → HaveOneRun sources link cases rounds
