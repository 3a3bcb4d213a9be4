use Rattle.std.proofs.Common.{◌≡◌, ◌∙◌, ℕ, List, map, rules, ap, sym, subst}
use Rattle.std.specs.List.{All}
use Rattle.reg_compiler.specs.declared.built.Built.{Built}
use Rattle.campaign_core.specs.CampaignRow.{case_row}
use Rattle.campaign_report.specs.TableText.{soak_text}
use Rattle.scene_core.specs.CasePlans.{plan_of}
use Rattle.scenario_json.specs.Cases.{IsCoded}
use Rattle.scenario_json.specs.Scene.{scene_with}
use Rattle.reg_compiler.specs.Sources.{sources_of}
use Rattle.scenario_json.specs.Soak.{gen}
use Rattle.ccp_run.specs.Campaign.{source_rows}
use Rattle.ccp_run.proofs.CampaignLemmas.{rows_over}
use Rattle.ccp_run.proofs.modes.soak.run_soak.Goals as goal

pub returns : goal.returns
returns g c =
    let scene = c.in_ok-scene.ensures in
    let cases = c.in_ok-scene.scene.cases in
    let number = c.args.number in
    let made = c.with_programs.ensures in
    let rows : c.in_ok-rows.rows ≡ map case_row cases = search rules in
    let text : c.in_ok-text.text ≡ soak_text number c.in_ok-rows.rows = search rules in
    record {
      cases = cases;
      generated = subst (λ (programs : List (ℕ × Built)). scene_with (sources_of programs) (map plan_of cases) ≡ gen number) (sym made.programs) scene.found;
      coded = subst (λ (programs : List (ℕ × Built)). All (IsCoded programs) cases) (sym made.programs) scene.coded;
      flows = scene.flows;
      written = made.text ∙ text ∙ ap (soak_text number) (rows ∙ rows_over c.in_ok-scene.scene.programs scene.numbered c.in_ok-rows.ensures.lifted cases scene.coded)
          ∙ ap (λ (programs : List (ℕ × Built)). soak_text number (source_rows programs cases)) (sym made.programs);
      no_books = made.books;
      idle = made.ran;
    }
