use Rattle.std.proofs.Common.{◌≡◌, ◌∙◌, ◌++◌, length, rules, ap, sym, arith}
use Rattle.std.proofs.lemmas.List.{length-map}
use Rattle.flow_core.specs.LiveText.{flow_from}
use Rattle.flow_core.specs.Readings.{over_codes}
use Rattle.campaign_report.specs.TableText.{table_text}
use Rattle.reg_compiler.specs.Sources.{sources_of}
use Rattle.shared_link.specs.SharedRounds.{counts_of}
use Rattle.shared_run.specs.LiftedRun.{HaveOneRun}
use Rattle.shared_run.specs.SharedHistory.{shared_rows, shared_counts}
use Rattle.ccp_run.specs.Shared.{link_line}
use Rattle.ccp_run.proofs.SharedLemmas.{all_simulated, rows-count}
use Rattle.ccp_run.proofs.modes.shared.labelled_output.Goals as goal

pub shared_text-requires-clause-within : goal.shared_text-requires-clause-within
shared_text-requires-clause-within g c =
    let scene = c.args.scene in
    let rows : c.in_ok-made.made.rows ≡ shared_rows scene.link over_codes scene.scene.cases scene.rounds = c.in_ok-made.ensures.rows in
    let count = rows-count scene.link scene.scene.cases scene.rounds in
    omega (arith, ap length rows, count, c.requires.few)

pub shared_text-requires-clause-names : goal.shared_text-requires-clause-names
shared_text-requires-clause-names g c =
    let scene = c.args.scene in
    let rows : c.in_ok-made.made.rows ≡ shared_rows scene.link over_codes scene.scene.cases scene.rounds = c.in_ok-made.ensures.rows in
    ap length c.requires.names ∙ length-map scene.scene.cases (λ case. case.name) ∙ sym (ap length rows ∙ rows-count scene.link scene.scene.cases scene.rounds)

pub shared_text-requires-clause-agents : goal.shared_text-requires-clause-agents
shared_text-requires-clause-agents g c =
    let scene = c.args.scene in
    let rows : c.in_ok-made.made.rows ≡ shared_rows scene.link over_codes scene.scene.cases scene.rounds = c.in_ok-made.ensures.rows in
    ap length c.requires.agents ∙ length-map scene.scene.cases (λ case. case.agent) ∙ sym (ap length rows ∙ rows-count scene.link scene.scene.cases scene.rounds)

pub returns-clause-text : goal.returns-clause-text
returns-clause-text g c =
    let scene = c.args.scene in
    let cases = scene.scene.cases in
    let programs = scene.scene.programs in
    let sources = flow_from (sources_of programs) in
    let one : HaveOneRun sources scene.link cases scene.rounds =
    c.in_ok-made.ensures.lifted sources (all_simulated programs c.requires.numbered cases c.requires.coded) in
    let labels = c.args.labels.now in
    let rows : c.in_ok-made.made.rows ≡ shared_rows scene.link sources cases scene.rounds = c.in_ok-made.ensures.rows ∙ one.rows in
    let counts : c.in_ok-made.made.counts ≡ shared_counts scene.link sources cases scene.rounds =
    c.in_ok-made.ensures.counts ∙ ap (λ run. counts_of scene.link run.history) one.run in
    let text : c.in_ok-text.text ≡ table_text labels.names labels.agents c.in_ok-made.made.rows ++ link_line c.in_ok-made.made.counts = search rules in
    c.text.ensures.text ∙ text ∙ (λ i. table_text (c.requires.names i) (c.requires.agents i) (rows i) ++ link_line (counts i))
