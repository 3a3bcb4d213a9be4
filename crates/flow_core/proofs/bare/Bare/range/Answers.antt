use Rattle.std.proofs.Common.{subst}
use Rattle.flow_core.specs.Bares.{BareState, InRange}
use Rattle.flow_core.proofs.bare.Bare.range.Goals as goal

pub returns : goal.returns
returns c =
    let is = c.self.invariant in
    subst (λ (b : BareState). InRange b.case b.summary) c.self.view_is (record { ss = is.ss; ca = is.ca; acks = is.acks; counts = is.runs.running.counts })
