use Rattle.std.proofs.Common.{◌≡◌, ◌∙◌, true, nat_lt, Some, None, option_map, slice_set, ap, sym, refl, arith, rules}
use Rattle.std.proofs.lemmas.Bool.Decides.{nat_tests}
use Rattle.std.proofs.lemmas.List.{map-set}
use Rattle.reg_code.specs.AcceptedCode.{IsAccepted}
use Rattle.ccp_base.specs.Limits.{most_kept_programs}
use Rattle.feed_core.specs.Feed.{there}
use Rattle.feed_core.specs.FeedHolds.{codes_in, code_in}
use Rattle.feed_core.proofs.FeedLemmas.{install-rejected, install-kept}
use Rattle.feed_core.proofs.tables.Tables.install.Goals as goal

pub returns-in-Err : goal.returns-in-Err
returns-in-Err c =
    let feed = c.args.self.now in
    let below : nat_lt c.args.program most_kept_programs ≡ true = grind (arith, nat_tests) in
    let none : c.program_at.result ≡ None = search rules in
    let free : there (codes_in feed.programs.items) c.args.program ≡ None =
    ap (λ ps. there (codes_in ps) c.args.program) (sym c.as_slice.ensures.value) ∙ sym c.program_at.ensures ∙ ap (option_map _) none in
    record {
      handled = install-rejected feed.flows.items (codes_in feed.programs.items) feed.messages c.args.n c.args.version c.args.program c.args.code below free
          (c.in-Err.rejected.rule, c.in-Err.rejected.index) c.refusal-in-Err.result c.in-Err.ensures.rejected c.refusal-in-Err.ensures;
      messages = refl;
    }

pub returns-in-Ok : goal.returns-in-Ok
returns-in-Ok c =
    let feed = c.args.self.now in
    let below : nat_lt c.args.program most_kept_programs ≡ true = grind (arith, nat_tests) in
    let none : c.program_at.result ≡ None = search rules in
    let free : there (codes_in feed.programs.items) c.args.program ≡ None =
    ap (λ ps. there (codes_in ps) c.args.program) (sym c.as_slice.ensures.value) ∙ sym c.program_at.ensures ∙ ap (option_map _) none in
    let accepted : IsAccepted c.args.code = c.verify.ensures.accepted.0 (search rules) in
    record {
      handled = install-kept feed.flows.items (codes_in feed.programs.items) feed.messages c.args.n c.args.version c.args.program c.args.code below free _ accepted
          (map-set code_in feed.programs.items c.args.program (Some c.in-Ok.checked)
          ∙ ap (λ k. slice_set (codes_in feed.programs.items) c.args.program (Some k)) c.in-Ok.ensures.code);
      messages = refl;
    }
