use Rattle.std.proofs.Common.{List, ℕ, subst}
use Rattle.ccp_base.specs.Limits.{most_audit_bytes}
use Rattle.ccp_base.specs.Outside.{Known, Appends, AppendsPrefix}
use Rattle.ccp_messages.specs.declared.message.Message.{Message}
use Rattle.feed_core.specs.Answering.{answering}
use Rattle.feed_core.specs.Feed.{Answer}
use Rattle.feed_core.specs.FeedBytes.{answer_bytes, frames_from}
use Rattle.feed_core.specs.FeedEnds.{stream, AreHandedOn}
use Rattle.feed_core.specs.FeedLacks.{AnswerLacksAt}
use Rattle.driven_flow.specs.Session.{SessionState, first_frame, hear, waits}
use Rattle.ccp_run.proofs.DriveFrames.{fed-first, fed-from, first-fails, front-of}
use Rattle.ccp_run.proofs.modes.drive.drive_session.Goals as goal

pub returns-in-Ok-clause-end : goal.returns-in-Ok-clause-end
returns-in-Ok-clause-end g c =
    let session : SessionState = c.args.session.now in
    let first : List ℕ = answer_bytes (first_frame session) in
    let old : Known = g.D.Duplex.written c.args.duplex.now in
    let mid : Known = g.D.Duplex.written c.write_answer.new.duplex in
    let new : Known = g.D.Duplex.written c.answer_from.new.duplex in
    let same = c.first_frame.ensures.first in
    fed-first (answering hear waits most_audit_bytes c.args.place session) first c.args.rest.now
    (AnswerLacksAt hear (λ (s : SessionState) (message : Message). Unit {0}) c.args.place (frames_from hear most_audit_bytes c.args.place session))
    (stream (g.D.Duplex.remaining c.args.duplex.now) (g.D.Duplex.remaining c.answer_from.new.duplex) (g.D.Duplex.read_faults c.args.duplex.now) (g.D.Duplex.read_faults c.answer_from.new.duplex))
    old mid new (g.D.Duplex.write_faults c.args.duplex.now) (g.D.Duplex.write_faults c.write_answer.new.duplex) (g.D.Duplex.write_faults c.answer_from.new.duplex)
    (g.D.Duplex.is_finished c.write_answer.new.duplex) (g.D.Duplex.is_finished c.answer_from.new.duplex) c.answer_from.new.answerer
    (subst (λ (a : Answer). Appends old mid (answer_bytes a)) same c.in-Ok.ensures.written)
    (subst (λ (a : Answer). AreHandedOn (answer_bytes a) (g.D.Duplex.is_finished c.write_answer.new.duplex)) same c.in-Ok.ensures.handed)
    c.write_answer.ensures.counted c.answer_from.ensures.writes c.answer_from.result c.answer_from.ensures.kept
    (fed-from (answering hear waits most_audit_bytes c.args.place session) c.args.rest.now
    (AnswerLacksAt hear (λ (s : SessionState) (message : Message). Unit {0}) c.args.place (frames_from hear most_audit_bytes c.args.place session))
    (g.D.Duplex.remaining c.args.duplex.now) (g.D.Duplex.remaining c.write_answer.new.duplex) (g.D.Duplex.remaining c.answer_from.new.duplex)
    (g.D.Duplex.read_faults c.args.duplex.now) (g.D.Duplex.read_faults c.write_answer.new.duplex) (g.D.Duplex.read_faults c.answer_from.new.duplex)
    (stream mid new (g.D.Duplex.write_faults c.write_answer.new.duplex) (g.D.Duplex.write_faults c.answer_from.new.duplex))
    (g.D.Duplex.is_finished c.answer_from.new.duplex) c.answer_from.new.answerer c.answer_from.result
    c.write_answer.ensures.remaining c.write_answer.ensures.read_faults c.answer_from.ensures.fed)

pub returns-clause-end : goal.returns-clause-end
returns-clause-end g c =
    let session : SessionState = c.args.session.now in
    let old : Known = g.D.Duplex.written c.args.duplex.now in
    let new : Known = g.D.Duplex.written c.write_answer.new.duplex in
    let failed = front-of (g.D.Duplex.write_faults c.args.duplex.now) (g.D.Duplex.write_faults c.write_answer.new.duplex) old new (answer_bytes c.first_frame.result) c.in-Err.field-0 c.in-Err.ensures.failed c.in-Err.ensures.err in
    first-fails (answering hear waits most_audit_bytes c.args.place session) (answer_bytes (first_frame session)) c.args.rest.now
    (g.D.Duplex.remaining c.args.duplex.now) (g.D.Duplex.remaining c.write_answer.new.duplex) (g.D.Duplex.read_faults c.args.duplex.now) (g.D.Duplex.read_faults c.write_answer.new.duplex)
    old new (g.D.Duplex.write_faults c.args.duplex.now) (g.D.Duplex.write_faults c.write_answer.new.duplex) c.write_answer.ensures.remaining failed.0
    (subst (λ (a : Answer). AppendsPrefix old new (answer_bytes a)) c.first_frame.ensures.first failed.1)
