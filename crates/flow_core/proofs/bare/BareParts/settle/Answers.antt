use Rattle.std.proofs.Common.{◌∙◌}
use Rattle.agent_core.specs.Agents.{replied}
use Rattle.flow_core.specs.Readings.{code_at}
use Rattle.flow_core.proofs.ValueLemmas.{good-values}
use Rattle.flow_core.proofs.RunningLemmas.{runs-closed}
use Rattle.flow_core.proofs.BareLemmas.{is-out, step-settled, is-settled, closed-acks}
use Rattle.flow_core.proofs.bare.BareParts.settle.Goals as goal

pub close-requires-clause-out : goal.close-requires-clause-out
close-requires-clause-out c = (is-out c.args.self.now c.args.answer.now c.requires.out).some

pub apply_reply-requires-clause-runs : goal.apply_reply-requires-clause-runs
apply_reply-requires-clause-runs c =
    let s = c.args.self.now in
    runs-closed (code_at s.case) s.case.slots s.running c.close.new.self c.requires.parts.runs c.close.ensures.running c.close.ensures.frame

pub apply_reply-requires-clause-acks : goal.apply_reply-requires-clause-acks
apply_reply-requires-clause-acks c = closed-acks c.args.self.now c.close.new.self c.requires.parts c.close.ensures.frame

pub apply_reply-requires-clause-good : goal.apply_reply-requires-clause-good
apply_reply-requires-clause-good c =
    let s = c.args.self.now in
    let parts = c.requires.parts in
    good-values s.case s.agent (record { ss_same = parts.ss; ca_same = parts.ca }) c.close.new.self.epoch.program c.reply.result

pub returns-clause-parts : goal.returns-clause-parts
returns-clause-parts c =
    let s = c.args.self.now in
    let o = is-out s c.args.answer.now c.requires.out in
    is-settled s c.requires.parts o.some c.close.new.self c.apply_reply.new.running c.after.result.now c.reply.result
    ((λ i. (c.after.ensures i, c.reply.ensures i)) ∙ (λ i. replied (o.before i) (o.told i)))
    c.close.ensures.frame c.apply_reply.ensures

pub returns-clause-step : goal.returns-clause-step
returns-clause-step c =
    let s = c.args.self.now in
    let o = is-out s c.args.answer.now c.requires.out in
    step-settled s c.requires.parts o.some c.close.new.self c.apply_reply.new.running c.after.result.now c.reply.result
    ((λ i. (c.after.ensures i, c.reply.ensures i)) ∙ (λ i. replied (o.before i) (o.told i)))
    c.close.ensures.frame c.apply_reply.ensures
