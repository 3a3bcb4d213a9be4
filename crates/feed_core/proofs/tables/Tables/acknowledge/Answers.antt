use Rattle.std.proofs.Common.{ℕ, ◌+◌, sym, subst}
use Rattle.ccp_messages.specs.declared.message.Message.TheVariants as message
use Rattle.feed_core.specs.Feed.{MessageAnswer}
use Rattle.feed_core.specs.FeedHolds.{feed_state, codes_in, AreFeedParts}
use Rattle.feed_core.proofs.FeedKept.{IsKept, handled-kept}
use Rattle.feed_core.proofs.tables.Tables.acknowledge.Goals as goal

pub returns-clause-is_feed : goal.returns-clause-is_feed
returns-clause-is_feed c =
    let old = feed_state c.args.self.now in
    let kept = subst (λ (a : MessageAnswer). IsKept (old.messages + 1) a) (sym c.ack.ensures.handled) (handled-kept old c.requires.is_feed (message.Ack c.args.n c.args.ack.now) c.args.version c.requires.few) in
    subst (λ (m : ℕ). AreFeedParts c.ack.new.self.flows.items (codes_in c.ack.new.self.programs.items) (m + 1)) (sym c.ack.ensures.messages) kept.0

pub returns-clause-frame : goal.returns-clause-frame
returns-clause-frame c =
    let old = feed_state c.args.self.now in
    let kept = subst (λ (a : MessageAnswer). IsKept (old.messages + 1) a) (sym c.ack.ensures.handled) (handled-kept old c.requires.is_feed (message.Ack c.args.n c.args.ack.now) c.args.version c.requires.few) in
    kept.1
