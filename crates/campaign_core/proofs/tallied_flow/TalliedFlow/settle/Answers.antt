use Rattle.std.proofs.Common.{max, sym, ◌∙◌}
use Rattle.flow_core.specs.declared.letter.Letter.TheVariants.{C}
use Rattle.flow_core.specs.WordLaws.{acks_in-C}
use Rattle.campaign_core.proofs.GivenFlowLemmas.{goes-letter}
use Rattle.campaign_core.proofs.tallied_flow.TalliedFlow.settle.Goals as goal

pub returns : goal.returns
returns g c =
    let flow = g.F.GivenFlow in
    let old = c.args.self.now in
    let new = c.raise_peak.new.self in
    let raised = c.raise_peak.ensures in
    goes-letter flow.at flow.bare_of g.met.F.GivenFlow.bare_law old.flow old.tally C acks_in-C new.flow new.tally
    (λ core whole is. raised.flow ∙ c.settle.ensures core whole is) raised.sums
    (raised.peak ∙ (λ i. max old.tally.peak (flow.bare_of (sym raised.flow i)).summary.track.env.cwnd))
