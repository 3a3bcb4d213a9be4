use Rattle.std.proofs.Common.{◌≡◌, ◌∙◌, ◌++◌, ℕ, List, length, map, ap, sym, subst, arith}
use Rattle.std.specs.Prelude.{IfOk}
use Rattle.std.proofs.lemmas.List.{length-map}
use Rattle.reg_compiler.specs.declared.built.Built.{Built}
use Rattle.reg_compiler.specs.Sources.{sources_of}
use Rattle.flow_core.specs.Cores.{CoreState}
use Rattle.flow_core.specs.LiveText.{flow_from}
use Rattle.campaign_report.specs.AcksText.{acks_text}
use Rattle.scenario_json.specs.Cases.{case_names}
use Rattle.shared_run.specs.SharedHistory.{shared_counts}
use Rattle.ccp_run.specs.Shared.{link_line}
use Rattle.ccp_run.specs.SharedSeries.{shared_acks_text, source_flows}
use Rattle.ccp_run.proofs.SeriesLemmas.{text_told}
use Rattle.ccp_run.proofs.SharedLemmas.{flows-count}
use Rattle.ccp_run.proofs.modes.shared_acks.labelled_acks.Goals as goal

pub lines_text-text-requires-clause-within : goal.lines_text-text-requires-clause-within
lines_text-text-requires-clause-within g c =
    let scene = c.args.scene in
    let programs = scene.scene.programs in
    let flows = source_flows programs scene.scene.cases scene.link scene.rounds in
    let count : length c.in_ok-series.series.histories.acks ≡ length scene.scene.cases =
    ap length c.in_ok-series.ensures.acks ∙ length-map flows (λ (core : CoreState). core.acks) ∙ flows-count scene.link (flow_from (sources_of programs)) scene.scene.cases scene.rounds in
    let few = c.requires.few in
    omega (arith, count, few)

pub lines_text-text-requires-clause-names : goal.lines_text-text-requires-clause-names
lines_text-text-requires-clause-names g c =
    let scene = c.args.scene in
    let programs = scene.scene.programs in
    let flows = source_flows programs scene.scene.cases scene.link scene.rounds in
    let count : length c.in_ok-series.series.histories.acks ≡ length scene.scene.cases =
    ap length c.in_ok-series.ensures.acks ∙ length-map flows (λ (core : CoreState). core.acks) ∙ flows-count scene.link (flow_from (sources_of programs)) scene.scene.cases scene.rounds in
    let names : c.in_ok-series.series.names ≡ case_names scene.scene.cases = c.in_ok-series.ensures.names ∙ c.requires.names in
    ap length names ∙ length-map scene.scene.cases (λ case. case.name) ∙ sym count

pub lines_text-text-requires-clause-agents : goal.lines_text-text-requires-clause-agents
lines_text-text-requires-clause-agents g c =
    let scene = c.args.scene in
    let programs = scene.scene.programs in
    let flows = source_flows programs scene.scene.cases scene.link scene.rounds in
    let count : length c.in_ok-series.series.histories.acks ≡ length scene.scene.cases =
    ap length c.in_ok-series.ensures.acks ∙ length-map flows (λ (core : CoreState). core.acks) ∙ flows-count scene.link (flow_from (sources_of programs)) scene.scene.cases scene.rounds in
    ap length c.requires.agents ∙ length-map scene.scene.cases (λ case. case.agent) ∙ sym count

pub returns-clause-text : goal.returns-clause-text
returns-clause-text g c =
    let scene = c.args.scene in
    let programs = scene.scene.programs in
    let cases = scene.scene.cases in
    let series = c.in_ok-series.series in
    let made = c.in_ok-series.ensures in
    let names : series.names ≡ case_names cases = made.names ∙ c.requires.names in
    let acks : series.histories.acks ≡ map (λ (core : CoreState). core.acks) (source_flows programs cases scene.link scene.rounds) = made.acks in
    let counts : series.counts ≡ shared_counts scene.link (flow_from (sources_of programs)) cases scene.rounds = made.counts in
    let whole : acks_text series.names c.args.agents.now series.histories.acks ++ link_line series.counts ≡ shared_acks_text programs cases scene.link scene.rounds =
    λ i. acks_text (names i) (c.requires.agents i) (acks i) ++ link_line (counts i) in
    text_told (shared_acks_text programs cases scene.link scene.rounds) c.lines_text-text.result c.series_output.result
    (subst (λ (t : List ℕ). IfOk c.lines_text-text.result (λ text. text ≡ t)) whole c.lines_text-text.ensures) c.series_output.ensures.text

pub returns-clause-programs : goal.returns-clause-programs
returns-clause-programs g c =
    subst (λ (ps : List (ℕ × Built)). IfOk c.series_output.result (λ output. output.programs ≡ ps)) c.in_ok-series.ensures.programs c.series_output.ensures.programs
