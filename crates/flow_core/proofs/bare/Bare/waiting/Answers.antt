use Rattle.std.proofs.Common.{length, ap, sym, ◌∙◌}
use Rattle.flow_core.specs.Bares.{BareState}
use Rattle.flow_core.proofs.RunningLemmas.{length-in}
use Rattle.flow_core.proofs.bare.Bare.waiting.Goals as goal

pub returns : goal.returns
returns c =
    let s = c.self.inside.parts.running in
    c.waiting.ensures.waiting
    ∙ sym (length-in s.machine.further s.outbox.slots)
    ∙ ap (λ (bare : BareState). length bare.summary.waiting) c.self.view_is
