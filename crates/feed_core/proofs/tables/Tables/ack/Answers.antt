use Rattle.std.proofs.Common.{◌≡◌, ◌∙◌, ◌<◌, Some, None, option_map, length, ap, sym, refl, arith, rules}
use Rattle.feed_core.specs.Feed.{running_code}
use Rattle.feed_core.specs.FeedHolds.{codes_in}
use Rattle.feed_core.proofs.FeedLemmas.{ack-absent, ack-counted, ack-heard}
use Rattle.feed_core.proofs.tables.Tables.ack.Goals as goal

pub returns-in_default : goal.returns-in_default
returns-in_default c =
    let feed = c.args.self.now in
    let lt : c.args.n < length feed.flows.items = omega (arith, c.requires.is_feed.flows_full) in
    let none : c.index_mut.result.now ≡ None = search rules in
    record {
      messages = refl;
      handled = ack-absent feed.flows.items (codes_in feed.programs.items) feed.messages c.args.n c.args.version c.index_mut.result.now lt c.index_mut.ensures.value
          c.args.ack.now c.index_mut.result.now c.put_refusal-in_default.new.answer none refl c.put_refusal-in_default.ensures;
    }

pub returns-in_default-code_of : goal.returns-in_default-code_of
returns-in_default-code_of c =
    let feed = c.args.self.now in
    let lt : c.args.n < length feed.flows.items = omega (arith, c.requires.is_feed.flows_full) in
    let none : c.code_of.result ≡ None = search rules in
    let runs : running_code c.in-Some.flow.epoch (codes_in feed.programs.items) ≡ None =
    ap (λ ps. running_code c.in-Some.flow.epoch (codes_in ps)) (sym c.as_slice.ensures.value) ∙ sym c.code_of.ensures ∙ ap (option_map _) none in
    record {
      messages = refl;
      handled = ack-counted feed.flows.items (codes_in feed.programs.items) feed.messages c.args.n c.args.version c.index_mut.result.now lt c.index_mut.ensures.value
          c.args.ack.now c.in-Some.flow c.pass.new.self c.args.answer.now c.in-Some.is runs c.pass.ensures c.requires.none;
    }

pub returns : goal.returns
returns c =
    let feed = c.args.self.now in
    let lt : c.args.n < length feed.flows.items = omega (arith, c.requires.is_feed.flows_full) in
    let code = c.in-Some-code_of.code.now.code in
    let runs : running_code c.in-Some.flow.epoch (codes_in feed.programs.items) ≡ Some code =
    ap (λ ps. running_code c.in-Some.flow.epoch (codes_in ps)) (sym c.as_slice.ensures.value) ∙ sym c.code_of.ensures ∙ ap (option_map _) c.in-Some-code_of.is in
    record {
      messages = refl;
      handled = ack-heard feed.flows.items (codes_in feed.programs.items) feed.messages c.args.n c.args.version c.index_mut.result.now lt c.index_mut.ensures.value
          c.args.ack.now c.in-Some.flow c.ack.new.self code c.ack.new.answer c.in-Some.is runs c.ack.ensures.after c.ack.ensures.message;
    }
