use Rattle.std.proofs.Common.{◌≡◌, ◌∙◌, ◌<◌, true, false, nat_lt, Some, None, option_map, length, ap, sym, refl, arith, rules}
use Rattle.std.proofs.lemmas.Bool.Decides.{nat_tests}
use Rattle.ccp_base.specs.Limits.{most_kept_programs}
use Rattle.feed_core.specs.Feed.{there}
use Rattle.feed_core.specs.FeedHolds.{codes_in}
use Rattle.feed_core.proofs.FeedLemmas.{change-absent, change-above, change-unknown, change-wide, change-bad, change-started}
use Rattle.feed_core.proofs.tables.Tables.change.Goals as goal

pub returns-in_default : goal.returns-in_default
returns-in_default c =
    let feed = c.args.self.now in
    let lt : c.args.n < length feed.flows.items = omega (arith, c.requires.is_feed.flows_full) in
    let none : c.index_mut.result.now ≡ None = search rules in
    record {
      messages = refl;
      handled = change-absent feed.flows.items (codes_in feed.programs.items) feed.messages c.args.n c.args.version c.index_mut.result.now lt c.index_mut.ensures.value
          c.args.program c.args.values.now c.index_mut.result.now c.refusal-in_default.result none refl c.refusal-in_default.ensures;
    }

pub returns-then-program-ge-PROGRAMS : goal.returns-then-program-ge-PROGRAMS
returns-then-program-ge-PROGRAMS c =
    let feed = c.args.self.now in
    let lt : c.args.n < length feed.flows.items = omega (arith, c.requires.is_feed.flows_full) in
    let above : nat_lt c.args.program most_kept_programs ≡ false = grind (arith, nat_tests) in
    record {
      messages = refl;
      handled = change-above feed.flows.items (codes_in feed.programs.items) feed.messages c.args.n c.args.version c.index_mut.result.now lt c.index_mut.ensures.value
          c.args.program c.args.values.now c.in-Some.flow c.in-Some.is c.refusal-then-program-ge-PROGRAMS.result above c.refusal-then-program-ge-PROGRAMS.ensures;
    }

pub returns-in_default-program_at : goal.returns-in_default-program_at
returns-in_default-program_at c =
    let feed = c.args.self.now in
    let lt : c.args.n < length feed.flows.items = omega (arith, c.requires.is_feed.flows_full) in
    let below : nat_lt c.args.program most_kept_programs ≡ true = grind (arith, nat_tests) in
    let none : c.program_at.result ≡ None = search rules in
    let here : there (codes_in feed.programs.items) c.args.program ≡ None =
    ap (λ ps. there (codes_in ps) c.args.program) (sym c.as_slice.ensures.value) ∙ sym c.program_at.ensures ∙ ap (option_map _) none in
    record {
      messages = refl;
      handled = change-unknown feed.flows.items (codes_in feed.programs.items) feed.messages c.args.n c.args.version c.index_mut.result.now lt c.index_mut.ensures.value
          c.args.program c.args.values.now c.in-Some.flow c.in-Some.is below c.refusal-in_default-program_at.result here c.refusal-in_default-program_at.ensures;
    }

pub returns-then-is_too_wide : goal.returns-then-is_too_wide
returns-then-is_too_wide c =
    let feed = c.args.self.now in
    let lt : c.args.n < length feed.flows.items = omega (arith, c.requires.is_feed.flows_full) in
    let below : nat_lt c.args.program most_kept_programs ≡ true = grind (arith, nat_tests) in
    let code = c.in-Some-program_at.code.now.code in
    let here : there (codes_in feed.programs.items) c.args.program ≡ Some code =
    ap (λ ps. there (codes_in ps) c.args.program) (sym c.as_slice.ensures.value) ∙ sym c.program_at.ensures ∙ ap (option_map _) c.in-Some-program_at.is in
    record {
      messages = refl;
      handled = change-wide feed.flows.items (codes_in feed.programs.items) feed.messages c.args.n c.args.version c.index_mut.result.now lt c.index_mut.ensures.value
          c.args.program c.args.values.now c.in-Some.flow c.in-Some.is below code here c.refusal-then-is_too_wide.result (sym c.is_too_wide.ensures ∙ c.if-is_too_wide.true) c.refusal-then-is_too_wide.ensures;
    }

pub returns-in-Ok : goal.returns-in-Ok
returns-in-Ok c =
    let feed = c.args.self.now in
    let lt : c.args.n < length feed.flows.items = omega (arith, c.requires.is_feed.flows_full) in
    let below : nat_lt c.args.program most_kept_programs ≡ true = grind (arith, nat_tests) in
    let code = c.in-Some-program_at.code.now.code in
    let here : there (codes_in feed.programs.items) c.args.program ≡ Some code =
    ap (λ ps. there (codes_in ps) c.args.program) (sym c.as_slice.ensures.value) ∙ sym c.program_at.ensures ∙ ap (option_map _) c.in-Some-program_at.is in
    record {
      messages = refl;
      handled = change-started feed.flows.items (codes_in feed.programs.items) feed.messages c.args.n c.args.version c.index_mut.result.now lt c.index_mut.ensures.value
          c.args.program c.args.values.now c.in-Some.flow c.in-Some.is below code here c.change.new.self (sym c.is_too_wide.ensures ∙ c.if-is_too_wide.false) (c.change.ensures.ok.0 (search rules)) c.in-Ok.ensures.changed;
    }

pub returns-in-Err : goal.returns-in-Err
returns-in-Err c =
    let feed = c.args.self.now in
    let lt : c.args.n < length feed.flows.items = omega (arith, c.requires.is_feed.flows_full) in
    let below : nat_lt c.args.program most_kept_programs ≡ true = grind (arith, nat_tests) in
    let code = c.in-Some-program_at.code.now.code in
    let here : there (codes_in feed.programs.items) c.args.program ≡ Some code =
    ap (λ ps. there (codes_in ps) c.args.program) (sym c.as_slice.ensures.value) ∙ sym c.program_at.ensures ∙ ap (option_map _) c.in-Some-program_at.is in
    record {
      messages = refl;
      handled = change-bad feed.flows.items (codes_in feed.programs.items) feed.messages c.args.n c.args.version c.index_mut.result.now lt c.index_mut.ensures.value
          c.args.program c.args.values.now c.in-Some.flow c.in-Some.is below code here c.change.new.self c.in-Err.field-0.0 c.refusal-in-Err.result (sym c.is_too_wide.ensures ∙ c.if-is_too_wide.false) (search rules) c.in-Err.ensures.unchanged c.refusal-in-Err.ensures;
    }
