use Rattle.std.proofs.Common.{◌∙◌}
use Rattle.flow_core.specs.Readings.{code_at}
use Rattle.flow_core.proofs.ValueLemmas.{good-values}
use Rattle.flow_core.proofs.RunningLemmas.{runs-closed}
use Rattle.flow_core.proofs.BareLemmas.{obeys-before, step-settled, is-settled, closed-acks}
use Rattle.flow_core.proofs.bare.BareParts.consult.Goals as goal

pub apply_reply-requires-clause-runs : goal.apply_reply-requires-clause-runs
apply_reply-requires-clause-runs c =
    let s = c.args.self.now in
    runs-closed (code_at s.case) s.case.slots s.running c.close.new.self c.requires.parts.runs c.close.ensures.running c.close.ensures.frame

pub apply_reply-requires-clause-acks : goal.apply_reply-requires-clause-acks
apply_reply-requires-clause-acks c = closed-acks c.args.self.now c.close.new.self c.requires.parts c.close.ensures.frame

pub apply_reply-requires-clause-good : goal.apply_reply-requires-clause-good
apply_reply-requires-clause-good c =
    let s = c.args.self.now in
    let parts = c.requires.parts in
    let kept = c.reply-reply.ensures in
    good-values s.case c.reply-reply.new.self (record { ss_same = kept.ss ∙ parts.ss; ca_same = kept.ca ∙ parts.ca }) c.close.new.self.epoch.program c.reply-reply.result

pub returns-clause-parts : goal.returns-clause-parts
returns-clause-parts c =
    let s = c.args.self.now in
    is-settled s c.requires.parts c.requires.out c.close.new.self c.apply_reply.new.running c.reply-reply.new.self c.reply-reply.result c.reply-reply.ensures.turn
    c.close.ensures.frame
    (obeys-before s.case s.agent c.reply-reply.new.self s.running.content c.reply-reply.result c.close.new.self c.apply_reply.new.running c.reply-reply.ensures.turn c.apply_reply.ensures)

pub returns-clause-step : goal.returns-clause-step
returns-clause-step c =
    let s = c.args.self.now in
    step-settled s c.requires.parts c.requires.out c.close.new.self c.apply_reply.new.running c.reply-reply.new.self c.reply-reply.result c.reply-reply.ensures.turn
    c.close.ensures.frame
    (obeys-before s.case s.agent c.reply-reply.new.self s.running.content c.reply-reply.result c.close.new.self c.apply_reply.new.running c.reply-reply.ensures.turn c.apply_reply.ensures)
