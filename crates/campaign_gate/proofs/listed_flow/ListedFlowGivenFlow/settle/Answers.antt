use Rattle.std.proofs.Common.{sym, subst}
use Rattle.flow_core.specs.declared.letter.Letter.TheVariants.{C}
use Rattle.campaign_core.specs.GivenFlows.{MayMake}
use Rattle.campaign_gate.specs.ListedFlows.{listed_flow_at}
use Rattle.campaign_gate.proofs.ListedLemmas.{may-listed}
use Rattle.campaign_gate.proofs.listed_flow.ListedFlowGivenFlow.settle.Goals as goal

pub settle-requires : goal.settle-requires
settle-requires c = may-listed C (record { flow = c.self.inside.flow; acks = c.self.inside.acks.items }) (subst (MayMake listed_flow_at C) (sym c.self.view_is) c.requires)
