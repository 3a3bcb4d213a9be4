use Rattle.std.proofs.Common.{sym, subst}
use Rattle.flow_core.specs.declared.letter.Letter.TheVariants.{A}
use Rattle.campaign_core.specs.GivenFlows.{MayMake}
use Rattle.campaign_gate.specs.ListedFlows.{listed_flow_at}
use Rattle.campaign_gate.proofs.ListedLemmas.{may-listed, room-left}
use Rattle.campaign_gate.proofs.listed_flow.ListedFlowGivenFlow.hear.Goals as goal

pub hear-requires : goal.hear-requires
hear-requires c = may-listed A (record { flow = c.self.inside.flow; acks = c.self.inside.acks.items }) (subst (MayMake listed_flow_at A) (sym c.self.view_is) c.requires)

pub push-requires : goal.push-requires
push-requires c = room-left (record { flow = c.self.inside.flow; acks = c.self.inside.acks.items }) c.self.inside.acks.room (subst (MayMake listed_flow_at A) (sym c.self.view_is) c.requires) c.self.invariant
