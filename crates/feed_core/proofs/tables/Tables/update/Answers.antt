use Rattle.std.proofs.Common.{◌≡◌, ◌∙◌, ◌<◌, Some, None, option_map, length, ap, sym, refl, arith, rules}
use Rattle.feed_core.specs.Feed.{running_code}
use Rattle.feed_core.specs.FeedHolds.{codes_in}
use Rattle.feed_core.proofs.FeedLemmas.{update-absent, update-idle, update-bad, update-written}
use Rattle.feed_core.proofs.tables.Tables.update.Goals as goal

pub returns-in_default : goal.returns-in_default
returns-in_default c =
    let feed = c.args.self.now in
    let lt : c.args.n < length feed.flows.items = omega (arith, c.requires.is_feed.flows_full) in
    let none : c.index_mut.result.now ≡ None = search rules in
    record {
      messages = refl;
      handled = update-absent feed.flows.items (codes_in feed.programs.items) feed.messages c.args.n c.args.version c.index_mut.result.now lt c.index_mut.ensures.value
          c.args.values.now c.index_mut.result.now c.refusal-in_default.result none refl c.refusal-in_default.ensures;
    }

pub returns-in_default-code_of : goal.returns-in_default-code_of
returns-in_default-code_of c =
    let feed = c.args.self.now in
    let lt : c.args.n < length feed.flows.items = omega (arith, c.requires.is_feed.flows_full) in
    let none : c.code_of.result ≡ None = search rules in
    let runs : running_code c.in-Some.flow.epoch (codes_in feed.programs.items) ≡ None =
    ap (λ ps. running_code c.in-Some.flow.epoch (codes_in ps)) (sym c.as_slice.ensures.value) ∙ sym c.code_of.ensures ∙ ap (option_map _) none in
    record {
      messages = refl;
      handled = update-idle feed.flows.items (codes_in feed.programs.items) feed.messages c.args.n c.args.version c.index_mut.result.now lt c.index_mut.ensures.value
          c.args.values.now c.in-Some.flow c.in-Some.is c.refusal-in_default-code_of.result runs c.refusal-in_default-code_of.ensures;
    }

pub returns-in-Ok : goal.returns-in-Ok
returns-in-Ok c =
    let feed = c.args.self.now in
    let lt : c.args.n < length feed.flows.items = omega (arith, c.requires.is_feed.flows_full) in
    let code = c.in-Some-code_of.code.now.code in
    let runs : running_code c.in-Some.flow.epoch (codes_in feed.programs.items) ≡ Some code =
    ap (λ ps. running_code c.in-Some.flow.epoch (codes_in ps)) (sym c.as_slice.ensures.value) ∙ sym c.code_of.ensures ∙ ap (option_map _) c.in-Some-code_of.is in
    record {
      messages = refl;
      handled = update-written feed.flows.items (codes_in feed.programs.items) feed.messages c.args.n c.args.version c.index_mut.result.now lt c.index_mut.ensures.value
          c.args.values.now c.in-Some.flow c.in-Some.is code c.update.new.self runs (c.update.ensures.ok.0 (search rules)) c.in-Ok.ensures.updated;
    }

pub returns-in-Err : goal.returns-in-Err
returns-in-Err c =
    let feed = c.args.self.now in
    let lt : c.args.n < length feed.flows.items = omega (arith, c.requires.is_feed.flows_full) in
    let code = c.in-Some-code_of.code.now.code in
    let runs : running_code c.in-Some.flow.epoch (codes_in feed.programs.items) ≡ Some code =
    ap (λ ps. running_code c.in-Some.flow.epoch (codes_in ps)) (sym c.as_slice.ensures.value) ∙ sym c.code_of.ensures ∙ ap (option_map _) c.in-Some-code_of.is in
    record {
      messages = refl;
      handled = update-bad feed.flows.items (codes_in feed.programs.items) feed.messages c.args.n c.args.version c.index_mut.result.now lt c.index_mut.ensures.value
          c.args.values.now c.in-Some.flow c.in-Some.is code c.update.new.self c.in-Err.field-0.0 c.refusal-in-Err.result runs (search rules) c.in-Err.ensures.unchanged c.refusal-in-Err.ensures;
    }
