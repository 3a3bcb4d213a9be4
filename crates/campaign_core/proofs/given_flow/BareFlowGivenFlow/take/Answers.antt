use Rattle.flow_core.specs.declared.letter.Letter.TheVariants.{T}
use Rattle.campaign_core.proofs.GivenFlowLemmas.{bare-may, bare-makes-T}
use Rattle.campaign_core.proofs.given_flow.BareFlowGivenFlow.take.Goals as goal

pub issue-requires : goal.issue-requires
issue-requires c = bare-may T c.args.self.now c.requires

pub returns : goal.returns
returns c = bare-makes-T c.args.self.now c.issue.new.self c.issue.ensures
