use Rattle.std.proofs.Common.{◌≡◌, ◌∙◌, ◌++◌, List, ℕ, ap, append_assoc, subst}
use Rattle.std.specs.Prelude.{IfOk}
use Rattle.reg_compiler.specs.declared.built.Built.{Built}
use Rattle.reg_compiler.specs.Sources.{sources_of}
use Rattle.flow_core.specs.LiveText.{flow_from}
use Rattle.campaign_report.specs.BookText.{books_text}
use Rattle.shared_run.specs.SharedHistory.{shared_counts}
use Rattle.ccp_run.specs.Campaign.{frames_shown}
use Rattle.ccp_run.specs.Shared.{link_line}
use Rattle.ccp_run.specs.SharedSeries.{core_parts, shared_timeline_text, source_flows}
use Rattle.ccp_run.proofs.SeriesLemmas.{text_told}
use Rattle.ccp_run.proofs.modes.shared_timeline.run_shared_timeline.Goals as goal

pub returns-clause-text : goal.returns-clause-text
returns-clause-text g c =
    let scene = c.args.scene in
    let programs = scene.scene.programs in
    let cases = scene.scene.cases in
    let series = c.in_ok-series.series in
    let made = c.in_ok-series.ensures in
    let frames = frames_shown c.args.wire programs in
    let parts : books_text programs series.histories.books ≡ core_parts (sources_of programs) (source_flows programs cases scene.link scene.rounds) = made.books in
    let counts : series.counts ≡ shared_counts scene.link (flow_from (sources_of programs)) cases scene.rounds = made.counts in
    let whole : (frames_shown c.args.wire series.programs ++ books_text series.programs series.histories.books) ++ link_line series.counts
    ≡ shared_timeline_text c.args.wire programs cases scene.link scene.rounds =
    ap (λ (ps : List (ℕ × Built)). (frames_shown c.args.wire ps ++ books_text ps series.histories.books) ++ link_line series.counts) made.programs
    ∙ (λ i. (frames ++ parts i) ++ link_line (counts i))
    ∙ append_assoc frames (core_parts (sources_of programs) (source_flows programs cases scene.link scene.rounds))
    (link_line (shared_counts scene.link (flow_from (sources_of programs)) cases scene.rounds)) in
    text_told (shared_timeline_text c.args.wire programs cases scene.link scene.rounds) c.parts_text-text.result c.series_output.result
    (subst (λ (t : List ℕ). IfOk c.parts_text-text.result (λ text. text ≡ t)) whole c.parts_text-text.ensures) c.series_output.ensures.text

pub returns-clause-programs : goal.returns-clause-programs
returns-clause-programs g c =
    subst (λ (ps : List (ℕ × Built)). IfOk c.series_output.result (λ output. output.programs ≡ ps)) c.in_ok-series.ensures.programs c.series_output.ensures.programs
