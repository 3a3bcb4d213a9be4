-- What `shared-timeline` and `shared-acks` make of their cases: what each flow did along the run, and the numbers of the
-- link's packets.
use Rattle.std.specs.Prelude.{◌≡◌, ℕ, Bool, List, [], ◌∷◌, map}
use Rattle.ccp_base.specs.Text.{◌⧺◌}
use Rattle.reg_compiler.specs.declared.built.Built.{Built}
use Rattle.reg_compiler.specs.Sources.{Sources, sources_of}
use Rattle.flow_core.specs.declared.case.Case.{Case}
use Rattle.flow_core.specs.Cores.{CoreState}
use Rattle.flow_core.specs.LiveText.{flow_from, flow_part}
use Rattle.campaign_report.specs.AcksText.{acks_text}
use Rattle.scenario_json.specs.Cases.{case_names}
use Rattle.shared_link.specs.declared.shared_case.SharedCase.{SharedCase}
use Rattle.campaign_core.specs.FlowRow.{world_of_core}
use Rattle.shared_run.specs.SharedHistory.{flows_at_end}
use Rattle.run_ending.specs.declared.outcome.ModeOutput.{ModeOutput}
use Rattle.run_ending.specs.declared.refusal.Limit.TheVariants.{Input}
use Rattle.ccp_run.specs.Campaign.{case_agents, frames_shown}
use Rattle.ccp_run.specs.Rules.{Rules, reads_whole}
use Rattle.ccp_run.specs.Scenes.{IsOfScene, SaysSomething}
use Rattle.ccp_run.specs.Shared.{SaysShared, HasSharedFault, IsSharedScenario, run_line}

-- ---- the texts

-- a flow's part of the live text: its acknowledgements and its word, read over the sources of its programs
abbrev pub core_part : Sources → CoreState → List ℕ
core_part sources core = flow_part sources core.case (world_of_core (flow_from sources) core)

-- the parts of flows, in order
abbrev pub core_parts : Sources → List CoreState → List ℕ
core_parts sources [] = []
core_parts sources (core ∷ rest) = core_part sources core ⧺ core_parts sources rest

-- the flows of a run at its end, with their acknowledgements and words, read over the sources
abbrev pub source_flows : List (ℕ × Built) → List Case → SharedCase → ℕ → List CoreState
source_flows programs cases link rounds = flows_at_end link (flow_from (sources_of programs)) cases rounds

-- a text of programs and cases on a link in at most this number of rounds
abbrev pub SeriesText : Type 0
SeriesText = List (ℕ × Built) → List Case → SharedCase → ℕ → List ℕ

-- the flows' parts, after the programs' frames if they are asked for, and the link's line
abbrev pub shared_timeline_text : Bool → SeriesText
shared_timeline_text wire programs cases link rounds =
    frames_shown wire programs
    ⧺ core_parts (sources_of programs) (source_flows programs cases link rounds)
    ⧺ run_line programs cases link rounds

-- the lines of the flows' acknowledgements, and the link's line
abbrev pub shared_acks_text : SeriesText
shared_acks_text programs cases link rounds =
    acks_text (case_names cases) (case_agents cases)
    (map (λ (core : CoreState). core.acks) (source_flows programs cases link rounds))
    ⧺ run_line programs cases link rounds

-- ---- the output

-- the output keeps the scenario's programs, and is this text of its cases on their link
pub record IsSeriesOutput (text : SeriesText) (bytes : List ℕ) (output : ModeOutput) : Type 0 where
  pub cases : List Case
  pub link : SharedCase
  pub rounds : ℕ
  pub scenario : IsSharedScenario bytes output.programs cases link rounds
  pub written : output.text ≡ text output.programs cases link rounds
  pub no_books : output.books ≡ []
  pub idle : output.ran ≡ 0

abbrev pub series_rules : SeriesText → Rules
series_rules text =
    reads_whole Input (λ bytes. SaysSomething (SaysShared bytes)) (IsSeriesOutput text)
    (λ bytes. IsOfScene (HasSharedFault bytes))

abbrev pub shared_timeline_rules : Bool → Rules
shared_timeline_rules wire = series_rules (shared_timeline_text wire)

abbrev pub shared_acks_rules : Rules
shared_acks_rules = series_rules shared_acks_text
