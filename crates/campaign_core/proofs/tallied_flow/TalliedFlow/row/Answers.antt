use Rattle.campaign_core.proofs.GivenFlowLemmas.{row-is}
use Rattle.campaign_core.proofs.tallied_flow.TalliedFlow.row.Goals as goal

pub returns : goal.returns
returns g c =
    let flow = g.F.GivenFlow in
    row-is flow.at flow.bare_of g.met.F.GivenFlow.bare_law c.args.self.now.flow c.args.self.now.tally c.bare.result.now c.bare.ensures
    c.of.result c.of.ensures
