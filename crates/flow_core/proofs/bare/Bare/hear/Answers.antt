use Rattle.std.proofs.Common.{ap, ◌∙◌}
use Rattle.ccp_base.specs.declared.ack.Ack.{Ack}
use Rattle.flow_core.specs.Bares.{BareState}
use Rattle.flow_core.specs.Readings.{over_codes}
use Rattle.flow_core.specs.Summaries.{Summary, step_ack}
use Rattle.flow_core.proofs.RateLemmas.{step-rated}
use Rattle.flow_core.proofs.bare.Bare.hear.Goals as goal

pub returns-clause-unread : goal.returns-clause-unread
returns-clause-unread c =
    let s : BareState = c.args.self.now in
    λ whole is.
    c.hear_in_ledger.ensures.step
    ∙ ap (λ (ack : Ack). record s { summary = step_ack (over_codes s.case) ack s.summary }) is
    ∙ ap (λ (next : Summary). record s { summary = next }) (step-rated s.case whole s.summary)
