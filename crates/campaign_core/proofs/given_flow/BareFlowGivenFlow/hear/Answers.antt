use Rattle.flow_core.specs.declared.letter.Letter.TheVariants.{A}
use Rattle.campaign_core.proofs.GivenFlowLemmas.{bare-may, bare-makes-A, bare-makes-unread}
use Rattle.campaign_core.proofs.given_flow.BareFlowGivenFlow.hear.Goals as goal

pub hear-requires : goal.hear-requires
hear-requires c = bare-may A c.args.self.now c.requires

pub returns-clause-made : goal.returns-clause-made
returns-clause-made c = bare-makes-A c.args.self.now c.hear.new.self c.args.ack.now c.hear.ensures.step

pub returns-clause-unread : goal.returns-clause-unread
returns-clause-unread c =
    λ whole got. bare-makes-unread c.args.self.now c.hear.new.self c.args.ack.now whole c.hear.ensures.unread got
