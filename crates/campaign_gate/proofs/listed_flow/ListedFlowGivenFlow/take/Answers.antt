use Rattle.std.proofs.Common.{sym, ◌∙◌, subst}
use Rattle.flow_core.specs.declared.letter.Letter.TheVariants.{T}
use Rattle.campaign_core.specs.GivenFlows.{MayMake}
use Rattle.campaign_core.proofs.GivenFlowLemmas.{bare-may}
use Rattle.campaign_gate.specs.ListedFlows.{listed_flow_at}
use Rattle.campaign_gate.proofs.ListedLemmas.{may-listed, lists-T}
use Rattle.campaign_gate.proofs.listed_flow.ListedFlowGivenFlow.take.Goals as goal

pub issue-requires : goal.issue-requires
issue-requires c = bare-may T c.self.inside.flow (may-listed T (record { flow = c.self.inside.flow; acks = c.self.inside.acks.items }) (subst (MayMake listed_flow_at T) (sym c.self.view_is) c.requires))

pub returns : goal.returns
returns c core whole is =
    lists-T (record { flow = c.self.inside.flow; acks = c.self.inside.acks.items }) c.issue.new.self c.issue.ensures core whole (c.self.view_is ∙ is)
