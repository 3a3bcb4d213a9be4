use Rattle.std.proofs.Common.{ℕ, false, List, subst}
use Rattle.ccp_base.specs.Limits.{most_input_bytes}
use Rattle.feed_core.specs.Feed.{FeedState, no_flows, answer_message, TakesMemory}
use Rattle.feed_core.specs.FeedBytes.{frames_from}
use Rattle.feed_core.specs.Answering.{answering}
use Rattle.feed_core.specs.FeedEnds.{Stream, stream, IsFed}
use Rattle.feed_core.specs.FeedLacks.{AnswerLacksAt}
use Rattle.feed_core.proofs.FeedBegins.{ends-unbegun}
use Rattle.feed_core.proofs.FeedInput.{feeds-input}
use Rattle.feed_core.proofs.calls.answer_frames.Goals as goal

pub returns-in-Err-clause-follows : goal.returns-in-Err-clause-follows
returns-in-Err-clause-follows g c = g.met.D.Duplex.follows_itself c.args.duplex.now

pub returns-in-Err-clause-fed : goal.returns-in-Err-clause-fed
returns-in-Err-clause-fed g c = ends-unbegun (g.D.Duplex.remaining c.args.duplex.now) (g.D.Duplex.written c.args.duplex.now) (g.D.Duplex.read_faults c.args.duplex.now) (g.D.Duplex.read_faults c.args.duplex.now) (g.D.Duplex.write_faults c.args.duplex.now) (g.D.Duplex.write_faults c.args.duplex.now) (g.D.Duplex.is_finished c.args.duplex.now)

pub returns-clause-fed : goal.returns-clause-fed
returns-clause-fed g c =
    let source : Stream = stream (g.D.Duplex.remaining c.args.duplex.now) (g.D.Duplex.remaining c.answer_from.new.duplex) (g.D.Duplex.read_faults c.args.duplex.now) (g.D.Duplex.read_faults c.answer_from.new.duplex) in
    let sink : Stream = stream (g.D.Duplex.written c.args.duplex.now) (g.D.Duplex.written c.answer_from.new.duplex) (g.D.Duplex.write_faults c.args.duplex.now) (g.D.Duplex.write_faults c.answer_from.new.duplex) in
    let is_finished : Type 0 = g.D.Duplex.is_finished c.answer_from.new.duplex in
    let from : FeedState → List ℕ → Type 0 = λ state before. IsFed (answering answer_message (λ state. false) most_input_bytes 0 state) before (AnswerLacksAt answer_message TakesMemory 0 (frames_from answer_message most_input_bytes 0 state)) source sink is_finished c.answer_from.new.answerer c.answer_from.result in
    feeds-input source sink is_finished c.answer_from.new.answerer c.answer_from.result
    (subst (λ (before : List ℕ). from no_flows before) c.new-rest.ensures (subst (λ (state : FeedState). from state c.new-rest.result) c.in-Ok.ensures.state c.answer_from.ensures.fed))
