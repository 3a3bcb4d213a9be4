use Rattle.std.proofs.Common.{◌≡◌, ℕ, ◌+◌, nat_lt, ap, sym, ◌∙◌, subst}
use Rattle.ccp_base.specs.declared.ack.Ack.{Ack}
use Rattle.link_model.specs.Link.{ack_after}
use Rattle.portus_core.specs.Epoch.{by_source, heard, stops}
use Rattle.flow_core.specs.World.{after_ack}
use Rattle.source_flow.specs.declared.state.Present.{Present}
use Rattle.source_flow.specs.SourceStates.{flow_over_sources, outcome_met, IsAt}
use Rattle.source_flow.specs.SourceSteps.{RecordsOutcome}
use Rattle.source_flow.proofs.HeardLemmas.{at-heard}
use Rattle.source_flow.proofs.state.State.hear.Goals as goal

pub returns-clause-at : goal.returns-clause-at
returns-clause-at c = λ w at.
    let source = c.args.source.now in
    let s = c.args.self.now in
    let link = c.next-ack.new.self in
    let ack : Ack = c.next-ack.result in
    let env = c.run-effect.new.self.env in
    let spare = c.run-effect.new.self.spare in
    let outcome = outcome_met spare.fields c.run-effect.result in
    let put = c.record_outcome.new.self in
    let is_room = ap (λ (n : ℕ). nat_lt n source.case.now.slots) (c.len.ensures ∙ s.waiting.ok.0) in
    let met =
    (λ i. heard (by_source (sym c.program-program.ensures i)) s.present.is_stopped s.present.env ack (sym is_room i)) ∙ c.run-effect.ensures.met in
    let present : c.run-effect.new.self ≡ record s.present { env = env; spare = spare; is_stopped = stops outcome } =
    c.run-effect.ensures.frame ∙ (λ i. record s.present { env = env; spare = spare; is_stopped = c.run-effect.ensures.stopped i }) in
    let down =
    subst (λ (p : Present). RecordsOutcome source.case.now.flow (record s { link = link; present = p }) put ack outcome) present c.in_ok-record_outcome.ensures in
    let is_ack =
    c.next-ack.ensures.ack w.windows at.stands ∙ (λ i. ack_after (c.requires.sound.link i) w.windows (at.kept i).track.env.cwnd) in
    subst (λ (a : Ack). IsAt (flow_over_sources source) (record put { acks = put.acks + 1; time = ack.now }) (after_ack (flow_over_sources source) a w)) is_ack
    (at-heard source s link ack outcome env spare put met down w at (c.next-ack.ensures.stands w.windows at.stands))
