use Rattle.std.proofs.Common.{map, sym, ap, ◌∙◌}
use Rattle.scene_core.specs.CasePlans.{flow_link_of, link_at_once}
use Rattle.scenario_json.proofs.SceneLemmas.{links_at_once}
use Rattle.scenario_json.proofs.calls.shared_scene.Goals as goal

pub returns-clause-links : goal.returns-clause-links
returns-clause-links c =
    ap (map link_at_once) (c.in_ok-flows.ensures ∙ ap (map flow_link_of) c.as_slice.ensures)
    ∙ links_at_once c.in_ok-parsed.parsed.plans ∙ ap (map flow_link_of) (sym c.in_ok-scene.ensures.plans)
