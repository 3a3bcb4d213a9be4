use Rattle.source_flow.proofs.GoodLemmas.{good-reply}
use Rattle.source_flow.proofs.SettledLemmas.{sound-settled, at-settled}
use Rattle.source_flow.proofs.state.State.settle.Goals as goal

pub apply_reply-requires-clause-good : goal.apply_reply-requires-clause-good
apply_reply-requires-clause-good c =
    good-reply c.args.source.now c.args.self.now.agent c.reply-reply.result c.requires.sound.matched c.requires.sound.roles

pub returns-clause-sound : goal.returns-clause-sound
returns-clause-sound c =
    sound-settled c.args.source.now c.args.self.now c.args.issued.now c.reply-reply.new.self c.reply-reply.result c.record_answer.new.self c.apply_reply.new.self
    c.requires.out c.reply-reply.ensures.turn c.in_ok-record_answer.ensures.tickets c.in_ok-record_answer.ensures.frame c.in_ok-apply_reply.ensures c.requires.sound

pub returns-clause-at : goal.returns-clause-at
returns-clause-at c =
    at-settled c.args.source.now c.args.self.now c.args.issued.now c.reply-reply.new.self c.reply-reply.result c.record_answer.new.self c.apply_reply.new.self
    c.requires.out c.reply-reply.ensures.turn c.in_ok-record_answer.ensures.tickets c.in_ok-record_answer.ensures.frame c.in_ok-apply_reply.ensures
