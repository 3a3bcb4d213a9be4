use Rattle.std.proofs.Common.{max, sym, ◌∙◌}
use Rattle.campaign_core.proofs.GivenFlowLemmas.{goes-A, sums-heard}
use Rattle.campaign_core.proofs.tallied_flow.TalliedFlow.hear.Goals as goal

pub returns : goal.returns
returns g c whole got =
    let flow = g.F.GivenFlow in
    let old = c.args.self.now in
    let new = c.raise_peak.new.self in
    let raised = c.raise_peak.ensures in
    goes-A flow.at flow.bare_of g.met.F.GivenFlow.bare_law old.flow old.tally new.flow new.tally whole c.requires.left
    (λ core all is. raised.flow ∙ c.hear.ensures.unread whole got core all is)
    (raised.sums ∙ c.with-self.ensures ∙ sums-heard (flow.gets old.flow) c.args.ack.now whole old.tally.sums got)
    (raised.peak ∙ (λ i. max old.tally.peak (flow.bare_of (sym raised.flow i)).summary.track.env.cwnd))
