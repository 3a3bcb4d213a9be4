use Rattle.std.proofs.Common.{◌≡◌, ◌++◌, length, map}
use Rattle.scene_core.specs.CasePlans.{flow_link_of}
use Rattle.scenario_json.proofs.flow_links.flow_links.Given as goal

abbrev pub invariant-loop-plan : goal.invariant-loop-plan
invariant-loop-plan l = l.links ++ map flow_link_of l.rest ≡ map flow_link_of l.plans

abbrev pub decreases-loop-plan : goal.decreases-loop-plan
decreases-loop-plan l = length l.rest
