use Rattle.std.proofs.Common.{◌≡◌, Option, Some, None, IfSome, sym, ◌∙◌}
use Rattle.campaign_core.specs.CampaignWord.{next_of}
use Rattle.campaign_core.proofs.PlanLemmas.{next-legal, none-complete}
use Rattle.flow_core.specs.declared.letter.Letter.{Letter}
use Rattle.driven_flow.specs.Driven.{DrivenState, flow_by, world_by, MayMake}
use Rattle.driven_flow.proofs.driven.DrivenFlow.next_letter.Goals as goal

legal-next : (d : DrivenState) (letter : Option Letter) → letter ≡ next_of (flow_by d) d.case.lag (world_by d) → IfSome letter (MayMake d)
legal-next d None is = tt
legal-next d (Some letter) is = next-legal (flow_by d) d.case.lag (world_by d) letter (sym is)

pub returns-clause-legal : goal.returns-clause-legal
returns-clause-legal c = legal-next c.args.self.now c.find_next.result c.find_next.ensures

pub returns-clause-complete : goal.returns-clause-complete
returns-clause-complete c =
    λ none. none-complete (flow_by c.args.self.now) c.args.self.now.case.lag (world_by c.args.self.now) (sym c.find_next.ensures ∙ none)
