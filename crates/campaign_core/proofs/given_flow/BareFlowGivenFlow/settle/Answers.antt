use Rattle.flow_core.specs.declared.letter.Letter.TheVariants.{C}
use Rattle.campaign_core.proofs.GivenFlowLemmas.{bare-may, bare-makes-C}
use Rattle.campaign_core.proofs.given_flow.BareFlowGivenFlow.settle.Goals as goal

pub consult-requires : goal.consult-requires
consult-requires c = bare-may C c.args.self.now c.requires

pub returns : goal.returns
returns c = bare-makes-C c.args.self.now c.consult.new.self c.consult.ensures
