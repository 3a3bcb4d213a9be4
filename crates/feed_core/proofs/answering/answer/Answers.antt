use Rattle.std.proofs.Common.{◌≡◌, inl, inr, ◌∙◌, List, ℕ, OnOk, IfErr, ap, sym, subst}
use Rattle.std.proofs.lemmas.Result.{on_ok_weaker}
use Rattle.ccp_base.specs.Outside.{Appends}
use Rattle.ccp_messages.specs.Messages.{frame_bytes}
use Rattle.feed_core.specs.FeedBytes.{answer_bytes, answer_to}
use Rattle.feed_core.specs.FeedStops.{StopsAnswer}
use Rattle.feed_core.proofs.AnswerParts.{answer-part}
use Rattle.feed_core.proofs.answering.answer.Goals as goal

pub returns-in-Some-clause-written : goal.returns-in-Some-clause-written
returns-in-Some-clause-written g c =
    let same : answer_to g.A.Answerer.answer_of c.args.answerer.now c.args.message c.args.version ≡ frame_bytes c.in-Some.version c.in-Some.message =
    sym (answer-part c.in_ok-answer.ensures.answered) ∙ ap answer_bytes c.in-Some.is in
    subst (λ (bytes : List ℕ). OnOk c.write.result (Appends (g.D.Duplex.written c.args.duplex.now) (g.D.Duplex.written c.write.new.duplex) bytes)) (sym same) c.write.ensures.written

pub returns-in-Some-clause-err : goal.returns-in-Some-clause-err
returns-in-Some-clause-err g c =
    let same : answer_to g.A.Answerer.answer_of c.args.answerer.now c.args.message c.args.version ≡ frame_bytes c.in-Some.version c.in-Some.message =
    sym (answer-part c.in_ok-answer.ensures.answered) ∙ ap answer_bytes c.in-Some.is in
    subst (λ (bytes : List ℕ). IfErr c.write.result (StopsAnswer (g.D.Duplex.write_faults c.args.duplex.now) (g.D.Duplex.write_faults c.write.new.duplex) (g.D.Duplex.written c.args.duplex.now) (g.D.Duplex.written c.write.new.duplex) bytes)) (sym same) c.write.ensures.err

pub returns-in-None-clause-handed : goal.returns-in-None-clause-handed
returns-in-None-clause-handed g c =
    inl (sym (answer-part c.in_ok-answer.ensures.answered) ∙ ap answer_bytes c.in-None.is)

pub returns-in-Some-clause-handed : goal.returns-in-Some-clause-handed
returns-in-Some-clause-handed g c = on_ok_weaker c.write.result (λ finished. inr finished) c.write.ensures.finished

pub returns-in-Some-clause-kept : goal.returns-in-Some-clause-kept
returns-in-Some-clause-kept g c = on_ok_weaker c.write.result (λ finished was. finished) c.write.ensures.finished
