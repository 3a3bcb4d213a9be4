use Rattle.std.proofs.Common.{◌<◌, length, rules}
use Rattle.campaign_core.proofs.GivenFlowLemmas.{core-more}
use Rattle.campaign_core.proofs.given_flow.CoreGivenFlow.hear.Goals as goal

pub unreachable-requires : goal.unreachable-requires
unreachable-requires c =
    let more : length c.args.self.now.acks < c.args.self.now.case.acks = core-more c.args.self.now c.requires in
    search (rules, more)
