use Rattle.std.proofs.Common.{◌-◌, ◌∙◌}
use Rattle.shared_run.proofs.RoundFlowLemmas.{asks}
use Rattle.shared_run.proofs.flow.ask_of.Goals as goal

pub returns : goal.returns
returns g c =
    let flow = g.F.GivenFlow in
    asks flow.at flow.bare_of g.met.F.GivenFlow.bare_law c.args.flow.now.flow c.args.flow.now.tally c.bare-bare.result.now c.bare-bare.ensures
    (record { window = c.cwnd.result; left = c.saturating_sub.result })
    (λ i. record { window = c.cwnd.ensures i; left = (c.saturating_sub.ensures ∙ (λ j. (c.case.ensures j).acks - c.acks.ensures j)) i })
